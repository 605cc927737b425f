-- The laws of the words in specs/.
pub mod Width
pub mod Draft
pub mod Line
pub mod One
pub mod When
pub mod Single
