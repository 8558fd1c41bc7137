-- The public standards as definitions, in the order in which they rest on each other.
pub mod Metered
pub mod Strings
pub mod Words
pub mod Hash
pub mod Sha256
pub mod Hmac
pub mod HashDf
pub mod State
pub mod HashDrbg
pub mod HmacDrbg
pub mod Functions
pub mod Lengths
pub mod Blocks
pub mod Vectors
pub mod Ring
