-- The laws of the words in specs/. Read is of what readers answer, and Kinds has all that goes kind by kind; Few is of how many
-- faults there can be, and Fault of the list that an answer holds.
pub mod Read
pub mod Kinds
pub mod Few
pub mod Fault
pub mod Single
