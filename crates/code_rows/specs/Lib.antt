pub mod Gathering
pub mod Remaining
