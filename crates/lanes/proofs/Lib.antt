pub mod Folding
pub mod Numbers
pub mod MarkerSymbols
pub mod Distance
pub mod Lanes
pub mod Ticks
pub mod Padded
pub mod Tables
