pub mod Joined
pub mod Noted
