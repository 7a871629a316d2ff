-- The decoder over any field.
mod Rows
mod Stages
mod Steps
mod Evaluation
mod ErrorValues
pub mod Decoding
