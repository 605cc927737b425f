-- The words that the contracts of this crate cite, and bytes as strings for all crates above.
pub mod Bytes
pub mod Columns
pub mod Text
pub mod Faults
pub mod Options
pub mod Given
