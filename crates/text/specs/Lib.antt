-- Text: its characters, digits, and what it is to be written.
pub mod Ascii
pub mod Digits
pub mod Writing
pub mod Texts
