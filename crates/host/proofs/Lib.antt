pub mod Octets
pub mod Lengths
pub mod Crossed
