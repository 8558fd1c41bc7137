-- Laws of strings compared.
pub mod Sameness
