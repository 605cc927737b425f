-- One is how a contract is seen to leave one answer, by its form; Plain is what that is worth.
pub mod One
pub mod Plain
