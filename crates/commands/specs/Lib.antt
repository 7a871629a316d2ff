pub mod Walks
pub mod Words
pub mod Groups
pub mod Lines
pub mod Repair
pub mod Streams
pub mod Text
pub mod Strips
