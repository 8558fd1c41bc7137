-- What the contracts of this crate cite, over the definitions of `standard` and of both mechanisms.
pub mod Mechanism
