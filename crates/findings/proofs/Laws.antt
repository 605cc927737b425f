-- The laws of the words in specs/.
pub mod Check
pub mod Single
