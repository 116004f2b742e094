pub mod Tables
pub mod Stages
