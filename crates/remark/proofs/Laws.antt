-- What the definitions give at their edges.
pub mod Cases
pub mod Single
