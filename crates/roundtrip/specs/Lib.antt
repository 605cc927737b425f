-- What the theorems on written lines speak of.
pub mod Returned
pub mod Places
