pub mod Built
pub mod Front
pub mod Segments
pub mod Sizes
