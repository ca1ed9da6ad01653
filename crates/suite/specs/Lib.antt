pub mod Ciphers
pub mod Maskings
pub mod Settings
