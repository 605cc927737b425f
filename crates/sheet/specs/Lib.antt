-- The words that the contracts of this crate cite: a line of 80 bytes as a table of cells, what writing one answers, and how it is drawn.
pub mod Ink
pub mod Sheet
pub mod Draft
pub mod When
