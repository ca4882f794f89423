pub mod PlainTerms
pub mod Reading
