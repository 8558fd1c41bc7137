-- Laws of what a line says, by subject.
pub mod Lists
pub mod Digits
pub mod Numbers
pub mod Lines
pub mod Says
pub mod Written
pub mod Only
mod Examples
