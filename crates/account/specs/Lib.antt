-- The words that the contracts of this crate cite: what is printed for a line. Rows is for the laws alone.
pub mod Account
pub mod Rows
