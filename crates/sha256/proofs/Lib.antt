-- What the proofs of several functions share.
pub mod Feeding
pub mod LastBlocks
pub mod Reading
pub mod Scratch
