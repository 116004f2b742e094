pub mod Verdicts
pub mod Columns
