-- The words that the contracts of this crate cite, in the order of document 01's 'How a field is read'. Word is of the quick reading alone.
pub mod Trim
pub mod Whole
pub mod Decimal
pub mod Wide
pub mod Grammar
pub mod Word
