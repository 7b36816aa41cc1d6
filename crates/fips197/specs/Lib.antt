pub mod Aes
pub mod Bytes
pub mod Cases
