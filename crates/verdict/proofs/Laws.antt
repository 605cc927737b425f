-- The laws of the words in specs/: Fewer proves the loop over the counts, and Short says that what is printed has room.
pub mod Fewer
pub mod Short
pub mod Cuts
pub mod Single
