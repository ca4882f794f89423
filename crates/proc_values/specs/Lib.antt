pub mod Binds
pub mod Shorter
pub mod Rows
pub mod Verdicts
pub mod MadeBits
