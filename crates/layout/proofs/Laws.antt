-- The law of the bytes of a list's elements, which a loop that puts them cites, and how many places rows have.
pub mod Each
pub mod Places
pub mod Column
pub mod Single
