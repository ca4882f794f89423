pub mod Bits
pub mod Number
pub mod Parts
pub mod Ledger
pub mod Utf
