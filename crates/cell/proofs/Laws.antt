-- The laws of the words in specs/. Power to Bits are of doubles, Text and Back of what is written and reads back, Put, Cell and Words of how it is
-- put, and Width of how many bytes that is.
pub mod Closest
pub mod Places
pub mod Scaled
pub mod Bits
pub mod Text
pub mod Back
pub mod Put
pub mod Cell
pub mod Words
pub mod Width
pub mod One
pub mod Single
