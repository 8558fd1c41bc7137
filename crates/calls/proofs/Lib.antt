-- A law over all six calls.
pub mod Determined
