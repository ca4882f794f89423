pub mod Numbering
pub mod ReadText
pub mod WantedForms
