-- What the proofs of both mechanisms share.
pub mod Metered
pub mod Short
pub mod Outputs
pub mod Standing
