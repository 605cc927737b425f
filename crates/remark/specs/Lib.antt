-- What REMARK holds.
pub mod Remark
