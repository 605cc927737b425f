-- The words that the contracts of this crate cite: the pieces of an input that comes in parts, what is held of one, and the lines that stand whole
-- in a part.
pub mod Pieces
pub mod Held
pub mod Whole
