-- The words that the contracts of this crate cite: which kind a line is, the name of a kind, and names as numbers.
pub mod Kind
pub mod Name
pub mod Key
