-- The laws of the words in specs/.
pub mod Words
pub mod Single
