pub mod Gathered
pub mod Heads
pub mod Rooted
pub mod Told
pub mod Wraps
