-- The code of 544 symbols.
pub mod Code
pub mod Answers
pub mod Laws
pub mod Faults
pub mod Runs
pub mod Lifting
pub mod Division
