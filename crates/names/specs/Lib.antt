-- The words that the contracts of this crate cite: what fields are called.
pub mod Names
