-- The words that the contracts of this crate cite: a double in so many places, the text of a number, and a text in so many columns.
pub mod Places
pub mod Text
pub mod Cell
pub mod Words
