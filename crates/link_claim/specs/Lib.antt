pub mod Workload
pub mod Steps
pub mod Views
pub mod Rule
pub mod Seats
pub mod Later
pub mod Stores
pub mod Examples
