pub mod Writing
pub mod Marks
