-- What the theorems of this crate speak of, besides the words of the crates below.
pub mod Reals
pub mod Held
pub mod Departures
pub mod Refusing
pub mod Sequence
pub mod Numbered
pub mod Idle
pub mod Edges
pub mod Defaults
