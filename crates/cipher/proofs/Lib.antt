pub mod Argument
pub mod Arrangements
pub mod Batches
mod Steps
pub mod Loop
