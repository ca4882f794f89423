pub mod FirstWords
pub mod Unique
