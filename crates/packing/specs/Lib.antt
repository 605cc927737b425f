-- The words that the contracts of this crate cite.
pub mod Options
pub mod Packed
