-- The words that the contracts of this crate cite: what is counted line by line, and the summary.
pub mod Ledger
pub mod Summary
