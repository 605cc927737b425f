-- The laws of the words in specs/.
pub mod Packed
pub mod Single
