-- The words that the contracts of this crate cite.
pub mod Put
pub mod Fields
