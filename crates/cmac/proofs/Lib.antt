pub mod Shifting
pub mod Summing
