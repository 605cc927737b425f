-- The laws of the words in specs/: Key is of the number of a text, Table of the names and their kinds, Front of a
-- name's first four bytes and last two, Name of the name of a kind, Number of its number.
pub mod Key
pub mod Table
pub mod Front
pub mod Name
pub mod Number
pub mod Single
