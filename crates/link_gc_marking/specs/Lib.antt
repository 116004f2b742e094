pub mod Marking
pub mod Outgoing
