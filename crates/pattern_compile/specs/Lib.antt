pub mod Meaning
pub mod Patterns
pub mod Compiled
