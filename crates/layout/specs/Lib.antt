-- The words that the contracts of this crate cite: the bytes of a row, and of those of a list.
pub mod Each
pub mod Label
pub mod Row
pub mod Places
pub mod Fault
