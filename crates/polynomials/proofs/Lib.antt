pub mod Closed
pub mod Linear
pub mod Bilinear
pub mod Order
pub mod Products
