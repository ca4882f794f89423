pub mod Exact
pub mod LineParts
pub mod Numbers
pub mod OrderLines
