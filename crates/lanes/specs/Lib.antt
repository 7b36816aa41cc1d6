pub mod Layout
pub mod Masks
pub mod Sizes
pub mod Schedule
pub mod Leaves
pub mod Programs
pub mod Circuits
