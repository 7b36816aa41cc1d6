pub mod Fixslice
