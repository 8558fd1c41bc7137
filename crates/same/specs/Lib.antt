-- Strings compared.
pub mod Same
