-- The laws of the words in specs/. Words is of a text of words, Place of the place of a field; Table says that what the code holds is what the
-- definition says; Names is for callers.
pub mod Place
pub mod Table
pub mod Names
pub mod Single
