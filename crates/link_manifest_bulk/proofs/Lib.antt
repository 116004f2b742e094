mod Single
mod Apart
mod Kept
mod Definitions
mod Remaining
mod Counted
mod Clashes
pub mod Linking
