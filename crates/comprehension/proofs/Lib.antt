pub mod Alike
pub mod Fronts
