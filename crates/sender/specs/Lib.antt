pub mod Refusals
pub mod States
pub mod View
pub mod Joins
pub mod Laws
pub mod HandCases
