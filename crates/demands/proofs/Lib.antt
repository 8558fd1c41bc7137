-- The three demands, by subject: demand 1 (Answered, Moves, Kept), demand 2 (Standard, Handles, Serials, Draws, Between), demand 3
-- (Blocks, Alike). InBytes and KeptInBytes carry them to a table in the caller's bytes. PLines: document 01's table of examples.
pub mod Outcome
pub mod Answered
pub mod Moves
pub mod Kept
pub mod Handles
pub mod Draws
pub mod Standard
pub mod Between
pub mod Serials
pub mod Blocks
pub mod Alike
pub mod InBytes
pub mod KeptInBytes
pub mod PLines
