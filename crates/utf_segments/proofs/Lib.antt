pub mod Candidates
pub mod Fronts
