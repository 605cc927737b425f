-- The laws of the words in specs/. Apart to Powers are of doubles, and end in the distance and in what a double tells. Real is what callers and
-- readers cite. Nearest to WideReal are of exponents, and WideReal is what callers and readers cite of them.
pub mod Apart
pub mod Halves
pub mod Kept
pub mod Value
pub mod Turned
pub mod Quotient
pub mod Tells
pub mod Powers
pub mod Real
pub mod Nearest
pub mod Wide
pub mod WideReal
pub mod Single
