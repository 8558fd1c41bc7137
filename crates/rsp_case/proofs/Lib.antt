-- Laws of what is kept, and of cases, written and read.
pub mod Kept
pub mod Steps
pub mod Fields
pub mod Written
pub mod Text
pub mod Only
