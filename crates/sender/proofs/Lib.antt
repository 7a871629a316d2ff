pub mod ByHand
pub mod Grouping
pub mod Refused
pub mod Joined
pub mod Returning
