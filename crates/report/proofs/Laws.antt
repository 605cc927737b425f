-- The laws of the words in specs/. Given is of what the listing of a line answers, and Room of how long a report can be. Behind and Turn are of
-- the loop that fills lent bytes, Fillings of what filling after filling gives, and One of what the contract of a filling leaves free: nothing.
pub mod Given
pub mod Room
pub mod Behind
pub mod Turn
pub mod Fillings
pub mod One
pub mod Single
