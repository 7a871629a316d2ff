-- Fields, sums and places.
pub mod Laws
pub mod Sums
pub mod Places
