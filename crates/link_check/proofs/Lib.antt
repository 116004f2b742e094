pub mod Differing
pub mod Columns
pub mod OneVerdict
pub mod Steps
