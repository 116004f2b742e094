pub mod Runs
pub mod Summary
pub mod Why
