pub mod Waiting
pub mod Turn
pub mod Least
pub mod Rows
pub mod Layers
pub mod Reaching
pub mod Joins
