pub mod Lists
pub mod Survivors
pub mod Settled
pub mod Narrowed
pub mod Chosen
