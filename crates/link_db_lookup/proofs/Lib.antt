pub mod Lookups
pub mod Within
