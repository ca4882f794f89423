pub mod GuardCalls
pub mod ModuleSizes
pub mod PutValues
pub mod ReadSizes
pub mod SizedBodies
pub mod SizedExpressions
