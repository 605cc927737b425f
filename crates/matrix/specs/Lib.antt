-- The words that the contracts of this crate cite, and in Bound those of the bound.
pub mod Rows
pub mod Apply
pub mod Bound
