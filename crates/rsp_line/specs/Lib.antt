-- NIST's response files, line by line: what a line says.
pub mod Hex
pub mod Decimal
pub mod Names
pub mod Lines
pub mod Values
pub mod Written
