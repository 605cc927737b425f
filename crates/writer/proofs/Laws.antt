-- The laws of the words in specs/.
pub mod Another
pub mod Counts
pub mod Shown
pub mod When
pub mod Single
