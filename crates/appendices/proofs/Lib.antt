pub mod Examples
pub mod Cmac
