-- The words that the contracts of this crate cite: what is held over of an unfinished line, and what there is to write.
pub mod Held
pub mod Turn
