-- Laws of mending, and the theorems.
pub mod Bytes
pub mod Kinds
pub mod Mended
pub mod Cut
pub mod Chain
pub mod Changes
pub mod Held
pub mod Steps
pub mod Answers
pub mod Fields
pub mod Padded
pub mod Cases
pub mod One
pub mod Single
