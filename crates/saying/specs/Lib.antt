-- What the theorem of this crate speaks of, besides the words of the crates below.
pub mod Said
