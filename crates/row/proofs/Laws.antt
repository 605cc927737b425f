-- That each contract leaves one answer.
pub mod Single
