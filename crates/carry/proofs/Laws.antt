-- Laws that the functions' proofs cite, and what follows from the contracts.
pub mod Pieces
pub mod Whole
pub mod First
pub mod Keep
pub mod Held
pub mod Left
pub mod Step
pub mod One
pub mod Single
