pub mod Segments
pub mod Spelled
