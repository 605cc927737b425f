-- The laws of the words in specs/. Plain and Tests prove the code, and Accepted is what callers cite of an accepted line.
pub mod Plain
pub mod Tests
pub mod Accepted
pub mod Single
