pub mod Bindings
pub mod Cursors
pub mod Environments
pub mod Layers
pub mod Turns
