-- The words that the contracts of this crate cite. Near and Nearest are what a double is held to.
pub mod Double
pub mod Real
pub mod Sign
pub mod Near
pub mod Nearest
pub mod Wide
