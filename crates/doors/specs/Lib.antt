-- What a call by value hands back.
pub mod Doors
