-- What the theorems of this crate speak of, besides the words of the crates below.
pub mod Taken
pub mod Differ
pub mod Views
pub mod Free
