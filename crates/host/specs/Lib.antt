pub mod Crossing
pub mod Replies
pub mod Version
