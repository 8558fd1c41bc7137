-- Laws of copied strings.
pub mod Pasted
