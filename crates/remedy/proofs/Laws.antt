-- The laws of the words in specs/.
pub mod Mend
pub mod Single
