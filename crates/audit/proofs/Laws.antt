-- The laws of the words in specs/. Said, Watch, Cuts and Turn prove the code; Watch, Cuts, When and Stands are what callers and readers cite.
pub mod Said
pub mod Watch
pub mod Cuts
pub mod Turn
pub mod When
pub mod Stands
pub mod Single
