-- What the proofs of several functions share.
pub mod Derivations
pub mod Standing
