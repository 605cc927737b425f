-- The laws of the words in specs/.
pub mod Fields
pub mod Found
pub mod Fine
pub mod Few
pub mod Table
pub mod Single
pub mod Either
pub mod Quick
