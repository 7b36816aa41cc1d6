pub mod Call
pub mod Calls
pub mod Theorems
pub mod Witness
pub mod Wrong
