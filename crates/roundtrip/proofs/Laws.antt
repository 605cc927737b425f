-- The theorems on written lines. Read, Bits, Sign, Again and Places are what 02 promises, Absent is the one case outside the premise, and Cases
-- computes a few; the rest leads there.
pub mod Stand
pub mod Trimmed
pub mod Small
pub mod Numbers
pub mod Texts
pub mod Marks
pub mod Plain
pub mod Lines
pub mod Fields
pub mod Read
pub mod Bits
pub mod Sign
pub mod Redrawn
pub mod Again
pub mod Places
pub mod Absent
pub mod Cases
