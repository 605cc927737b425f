-- Laws of the rows.
pub mod Rows
pub mod Room
pub mod Repair
pub mod One
pub mod Single
