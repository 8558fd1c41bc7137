-- NIST's response files: what a case is, how it is written and read, and how it is held while it is read.
pub mod Cases
pub mod Store
pub mod Heads
pub mod Points
pub mod Values
pub mod Reading
pub mod Kept
pub mod Written
pub mod Text
