pub mod Sites
pub mod WantedExprs
pub mod WantedItems
pub mod WantedSegments
