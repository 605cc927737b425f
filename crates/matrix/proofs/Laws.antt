-- The laws of the words in specs/.
pub mod Rows
pub mod Signed
pub mod Grid
pub mod Ops
pub mod Chain
pub mod Integers
pub mod Held
pub mod Bound
pub mod Single
