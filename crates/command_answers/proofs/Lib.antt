pub mod Answers
pub mod Commands
pub mod Taken
pub mod Written
