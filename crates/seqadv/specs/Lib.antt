-- What SEQADV holds.
pub mod Seqadv
