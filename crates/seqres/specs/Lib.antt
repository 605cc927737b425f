-- What SEQRES holds.
pub mod Seqres
