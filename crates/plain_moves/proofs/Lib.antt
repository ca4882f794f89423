pub mod Acts
pub mod Alike
pub mod Asks
pub mod BodyItems
pub mod Gathers
pub mod Goes
pub mod Known
