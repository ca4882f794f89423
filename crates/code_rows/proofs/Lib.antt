pub mod BoundedRows
pub mod Collects
pub mod NextRow
