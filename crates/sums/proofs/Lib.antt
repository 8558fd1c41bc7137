-- What the proofs of several functions share.
pub mod Limbs
pub mod Carries
