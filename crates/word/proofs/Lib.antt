pub mod Stored
pub mod Little
