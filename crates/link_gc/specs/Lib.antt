pub mod Gathering
pub mod Live
pub mod Numbering
