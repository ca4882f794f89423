pub mod Asks
pub mod Entering
pub mod Following
pub mod Proceeding
pub mod Reaching
pub mod Replaying
pub mod Running
pub mod Starting
