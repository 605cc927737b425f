-- The laws of the words in specs/.
pub mod Write
pub mod Single
