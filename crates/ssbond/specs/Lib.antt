-- What SSBOND holds.
pub mod Ssbond
