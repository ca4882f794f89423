pub mod Bitwise
pub mod Fits
pub mod Joined
pub mod Measures
pub mod RowLemmas
pub mod Shifts
pub mod SmallNumbers
pub mod Spellings
