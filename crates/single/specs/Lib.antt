-- What it is for a contract to leave one answer.
pub mod One
