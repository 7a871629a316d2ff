-- The decoder over any field.
pub mod Words
pub mod Elimination
pub mod Errors
pub mod Decoding
