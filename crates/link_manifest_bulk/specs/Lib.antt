pub mod Names
pub mod Tables
pub mod Bulk
pub mod World
pub mod Chain
