-- What MASTER holds.
pub mod Master
