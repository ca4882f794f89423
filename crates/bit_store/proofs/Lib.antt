pub mod Lengths
pub mod WrittenBits
