pub mod KeySize
pub mod Refusal
