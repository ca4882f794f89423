pub mod SizeForms
