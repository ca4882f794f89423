pub mod GuardForms
pub mod Literals
pub mod Numbers
pub mod Places
pub mod Variables
