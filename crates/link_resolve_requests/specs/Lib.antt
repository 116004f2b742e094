pub mod Requests
pub mod Objects
pub mod Names
