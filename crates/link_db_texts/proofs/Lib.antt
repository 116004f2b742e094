pub mod Told
pub mod Matched
pub mod Lists
pub mod Taken
pub mod Forced
pub mod Answered
