-- The words that the contracts of this crate cite: which refusal a line gets, and what is answered.
pub mod Refusals
pub mod Lexed
pub mod Steps
