-- The words that the contracts of this crate cite.
pub mod Faults
pub mod Read
