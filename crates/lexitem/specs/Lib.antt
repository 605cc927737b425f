-- The words that the contracts of this crate cite: what is said of each kind and of each record.
pub mod Describe
pub mod Shown
pub mod Read
pub mod Answer
pub mod Fault
