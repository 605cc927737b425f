-- Laws that the functions' proofs cite, and what follows from the contracts.
pub mod Held
pub mod Put
pub mod Turn
pub mod Turns
pub mod Parts
pub mod One
pub mod Single
