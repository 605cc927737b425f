-- The laws of the words in specs/.
pub mod Faults
pub mod Read
pub mod Single
