-- What is reported on a response file.
pub mod Sizes
pub mod Report
pub mod Pieces
