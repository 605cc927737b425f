-- The words that the contracts of this crate cite: the mended line, the changes that were made, and what mending answers.
pub mod Mend
pub mod Changes
pub mod Mending
