pub mod Closing
pub mod Openings
pub mod Passes
pub mod Replay
pub mod Replies
pub mod Seeing
