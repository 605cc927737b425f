-- The laws of the words in specs/. One says that the contracts leave nothing free, and that the two sorts of answer tell the same.
pub mod Ask
pub mod Places
pub mod One
pub mod Single
