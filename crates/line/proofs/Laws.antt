-- The laws of the words in specs/.
pub mod Faults
pub mod Single
pub mod Parts
