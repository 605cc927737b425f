-- The laws of the words in specs/. Name is of a line's name, and proves the code; Front, Count and Bits are what callers and readers cite.
pub mod Name
pub mod Front
pub mod Count
pub mod Bits
pub mod Single
