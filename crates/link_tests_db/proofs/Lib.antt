pub mod Stages
pub mod Whole
