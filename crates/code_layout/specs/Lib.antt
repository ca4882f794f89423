pub mod Layout
pub mod Lookups
pub mod Readings
