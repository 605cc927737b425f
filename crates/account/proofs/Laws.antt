-- The laws of the words in specs/. Loops and Parts serve the proofs of the functions; Short and Lent tell a program what to lend; Told, Line, Under and
-- PutThere are what an account promises, by Seen and by Agree to InRows. Cases is what the definitions give at their edges.
pub mod Loops
pub mod Parts
pub mod Seen
pub mod Short
pub mod Lent
pub mod Told
pub mod Line
pub mod Under
pub mod Agree
pub mod Known
pub mod Unread
pub mod InRows
pub mod PutThere
pub mod Cases
pub mod Single
