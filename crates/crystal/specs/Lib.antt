-- What CRYST1 holds.
pub mod Crystal
