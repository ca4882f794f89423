pub mod Escapes
pub mod Pieces
pub mod Cutting
pub mod Values
pub mod Longest
