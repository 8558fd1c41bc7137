-- What the proofs of several functions share.
pub mod Bytes
pub mod Load
pub mod WordForms
pub mod Stores
