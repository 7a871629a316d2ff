-- The mathematics over any field.
pub mod Algebra
pub mod Sums
pub mod Powers
pub mod Vandermonde
pub mod Locator
pub mod Roots
pub mod WordValues
pub mod Distance
