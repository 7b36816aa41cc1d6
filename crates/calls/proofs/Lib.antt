mod Limits
pub mod Directions
pub mod ZeroKey
pub mod WholeBlocks
