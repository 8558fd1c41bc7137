-- What the promises of the exported functions determine.
pub mod Determined
