-- The wwPDB format.
pub mod Format
