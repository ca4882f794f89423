pub mod Answers
pub mod Copies
pub mod Loads
pub mod Runs
pub mod Words
