pub mod ArgumentRows
pub mod Asking
pub mod Looked
pub mod Moving
pub mod Receives
pub mod Replies
pub mod Turning
