-- The words that the contracts of this crate cite: what a MASTER line says, what checking a file answers, what is known of a file after some of its
-- lines and after some of its parts, and what was found as words.
pub mod Said
pub mod Audit
pub mod Watch
pub mod Cuts
pub mod Found
pub mod When
