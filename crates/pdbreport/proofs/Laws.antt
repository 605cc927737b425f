-- Laws that the functions' proofs cite, and what follows from the contracts: Line is of the line that is held, Bytes of bytes that come one behind the
-- other, Cuts of the whole, Counted of what is counted in it, and Came of the code's steps.
pub mod Line
pub mod Bytes
pub mod Cuts
pub mod Counted
pub mod Came
