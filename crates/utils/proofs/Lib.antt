pub mod Eight
pub mod Doubled
