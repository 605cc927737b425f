-- The words that the contracts of this crate cite: what is printed for a part of the input.
pub mod Printed
