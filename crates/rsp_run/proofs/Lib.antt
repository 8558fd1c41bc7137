-- Laws of running a case.
pub mod Fields
pub mod Walks
pub mod Outputs
pub mod Passing
