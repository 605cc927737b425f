-- The laws of the words in specs/. Lists is of bytes in general, Page of putting, and Decimal to Escaped of what is put. Cases is what the
-- definitions give at their edges.
pub mod Lists
pub mod Page
pub mod Decimal
pub mod Signed
pub mod Hex
pub mod Escaped
pub mod Cases
pub mod Single
