-- The laws of the words in specs/. Rows is of the bytes of rows, Fitted of a listing on lent bytes, Room and
-- Longest of how long one can be, Given of what the entry makes of an answer, and One says that its contract leaves nothing free. Cases is what
-- the definitions give at their edges.
pub mod Rows
pub mod Fitted
pub mod Room
pub mod Table
pub mod Longest
pub mod Given
pub mod One
pub mod Cases
pub mod Single
