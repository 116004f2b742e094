pub mod Keying
pub mod Listing
pub mod Gathering
pub mod Wrapping
