-- The laws of the words in specs/: Turns and Rows prove the loops, Steps what calls leave; Counted and Short are what readers cite.
pub mod Turns
pub mod Steps
pub mod Rows
pub mod Counted
pub mod Short
pub mod Single
