-- What HEADER holds.
pub mod Header
