-- The words that the contracts of this crate cite: a page and what putting does to it, and the bytes that show numbers and texts. Said is
-- for the laws alone.
pub mod Page
pub mod Numerals
pub mod Said
