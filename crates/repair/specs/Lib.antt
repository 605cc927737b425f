-- The words that the contracts of this crate cite: the rows that tell what was done to a line, and what becomes of the line.
pub mod Rows
pub mod Repair
