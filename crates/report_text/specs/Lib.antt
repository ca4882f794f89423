pub mod Entries
pub mod Fields
pub mod Laws
pub mod Reading
