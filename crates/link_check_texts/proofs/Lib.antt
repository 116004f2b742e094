pub mod Told
pub mod Forced
pub mod Taken
pub mod Causing
