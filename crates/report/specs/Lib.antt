-- The words that the contracts of this crate cite: what is printed for a line, and for as many lines as there is room for.
pub mod Report
pub mod Fill
