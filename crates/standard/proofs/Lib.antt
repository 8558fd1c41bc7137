-- Laws about the definitions in specs/, by subject.
pub mod Examples
pub mod Strings
pub mod Words
pub mod Hash
pub mod Lengths
pub mod Ring
pub mod AllBytes
pub mod Counts
pub mod Bound
