pub mod Answer
pub mod Complete
pub mod Laws
pub mod Stream
pub mod Whole
