-- The words that the contracts of this crate cite: what is printed for a file, and for one that comes byte by byte.
pub mod Told
pub mod Fed
