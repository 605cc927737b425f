-- The laws of the words in specs/.
pub mod Matrix
pub mod Single
