pub mod Messages
pub mod Places
pub mod Strips
pub mod Packing
pub mod Returns
pub mod Laws
