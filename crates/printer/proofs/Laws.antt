-- The laws of the words in specs/.
pub mod Sheets
pub mod Whole
pub mod Single
