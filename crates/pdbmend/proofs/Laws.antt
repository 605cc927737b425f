-- Laws of what is held over, and of what there is to write.
pub mod Held
pub mod Turn
pub mod Room
pub mod Due
