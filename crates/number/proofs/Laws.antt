-- The laws of the words in specs/. Choice is of tests. Trim to Decimal prove the code, Mark and Wide that of exponents, and Word to Fixed the quick
-- reading. Grammar, Width, Wide, WideGrammar and Fixed are what callers and readers cite.
pub mod Choice
pub mod Trim
pub mod Digits
pub mod Run
pub mod Signed
pub mod Decimal
pub mod Grammar
pub mod Width
pub mod Mark
pub mod Wide
pub mod WideGrammar
pub mod Word
pub mod Shape
pub mod Fixed
pub mod Single
