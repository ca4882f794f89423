pub mod Marks
pub mod PackableTerms
