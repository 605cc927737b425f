-- What MODRES holds.
pub mod Modres
