pub mod Members
pub mod Runs
pub mod Work
