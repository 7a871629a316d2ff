-- The code of 544 symbols.
pub mod Counting
pub mod Lifted
pub mod Far
pub mod Lists
pub mod Named
pub mod Near
pub mod Refusals
mod Words
mod Answered
mod Decoded
mod Generator
mod TapProducts
mod Shifting
mod Division
pub mod Existing
mod WordRemainders
pub mod Encodings
pub mod Engines
pub mod Turns
mod InARow
