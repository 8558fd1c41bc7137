-- What the proofs share.
pub mod Holding
pub mod Meaning
