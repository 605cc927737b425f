-- The words that the contracts of this crate cite: which number counts a line, what is counted, and which numbers differ.
pub mod Names
pub mod Tally
pub mod Compare
