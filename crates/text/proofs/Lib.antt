-- Laws of digits and of text that is written.
pub mod Writing
pub mod Digits
