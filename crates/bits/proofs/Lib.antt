pub mod Fields
pub mod Octets
pub mod Tables
pub mod Lowest
pub mod Arrays
pub mod Binary
pub mod Every
pub mod Numbers
