-- Running a case of a response file.
pub mod Run
pub mod Places
pub mod Walk
