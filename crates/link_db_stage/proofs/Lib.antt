pub mod Mappings
pub mod Tables
