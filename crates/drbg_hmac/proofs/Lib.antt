-- What the proofs of several functions share.
pub mod Pads
pub mod Updates
pub mod Turns
pub mod Standing
