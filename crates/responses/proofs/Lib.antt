-- Laws of a report.
pub mod Room
pub mod Telling
pub mod Windows
pub mod Endings
