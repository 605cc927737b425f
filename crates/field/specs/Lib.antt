-- The words that the contracts of this crate cite, and the tables of fields that the crates above write in them.
pub mod Found
pub mod Number
pub mod Text
pub mod Charge
pub mod Remark
pub mod Table
