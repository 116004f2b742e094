pub mod Groups
pub mod Sections
