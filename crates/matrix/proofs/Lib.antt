-- The laws beside the proof files.
pub mod Laws
