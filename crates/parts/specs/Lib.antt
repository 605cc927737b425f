-- The words that the contracts of this crate cite: what is put for a line that was held, and what feeding a part puts.
pub mod Held
pub mod Feed
