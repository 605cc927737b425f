-- The words that the contracts of this crate cite: what each kind's line holds, in the format's columns, and the parts of a line as they are drawn.
pub mod Sheets
pub mod Steps
