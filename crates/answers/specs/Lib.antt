-- The words that the contracts of this crate cite.
pub mod Face
pub mod Ask
pub mod Places
