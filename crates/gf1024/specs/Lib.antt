-- The field of 1,024 elements.
pub mod Field
pub mod Elements
