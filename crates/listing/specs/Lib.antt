-- The words that the contracts of this crate cite: the bytes of a listing, and what a listing leaves on lent bytes.
pub mod Listing
pub mod Listed
