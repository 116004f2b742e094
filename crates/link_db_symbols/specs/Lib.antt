pub mod Views
pub mod Walk
pub mod Lookups
