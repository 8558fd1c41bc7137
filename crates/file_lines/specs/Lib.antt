-- The lines of a file.
pub mod Lines
pub mod Held
