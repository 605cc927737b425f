-- The theorem is in Say; the rest leads there.
pub mod Pairs
pub mod Rows
pub mod Tables
pub mod Fields
pub mod Faults
pub mod Say
