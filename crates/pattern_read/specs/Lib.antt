pub mod Reading
pub mod Cursor
pub mod Wanted
pub mod WantedPatterns
