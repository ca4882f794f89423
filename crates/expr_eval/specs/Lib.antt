pub mod Answers
pub mod Truths
pub mod Kinds
pub mod Ranges
pub mod Digits
pub mod Joined
