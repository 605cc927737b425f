-- The words that the contracts of this crate cite: what is printed for a file.
pub mod Verdict
