-- How a response file is read.
pub mod Reading
