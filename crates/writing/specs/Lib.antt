-- The words that the contracts of this crate cite.
pub mod Write
