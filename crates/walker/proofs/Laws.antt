-- The laws of the words in specs/. Blocks is of bytes that are passed together, and Pieces of the bytes up to an LF:
-- both prove the code. Lines is what callers and readers cite. Cases are
-- files whose lines are written out.
pub mod Blocks
pub mod Pieces
pub mod Lines
pub mod Cases
pub mod Single
