-- SP 800-90A §11.3: the cases that the library tests itself with.
pub mod Cases
pub mod Strings
pub mod Published
pub mod SelfTest
