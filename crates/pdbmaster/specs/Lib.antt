-- The words that the contracts of this crate cite: what is known at the end of the input, and what is printed then.
pub mod Came
