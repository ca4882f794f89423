pub mod Reaching
pub mod Wanting
pub mod Binding
pub mod Running
