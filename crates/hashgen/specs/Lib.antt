-- What the contracts of this crate cite, over the definitions of `standard`.
pub mod Turns
