-- leaves first
mod KeySizes
mod RoundKeys
pub mod Reading
pub mod Cases
mod Passes
mod Growing
mod Adjusting
