-- What SCALEn, ORIGXn and MTRIXn hold.
pub mod Transformation
