-- The field of 1,024 elements.
pub mod Powers
mod PowerLists
mod Logarithms
