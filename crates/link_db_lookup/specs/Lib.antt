pub mod Tables
pub mod Unshared
