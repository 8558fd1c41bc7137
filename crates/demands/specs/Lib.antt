-- Calls and sequences of calls on a table, and what the demands say of them.
pub mod Calls
pub mod Handles
pub mod Draws
pub mod Outcomes
pub mod Blocks
pub mod InBytes
pub mod Alike
pub mod PLines
