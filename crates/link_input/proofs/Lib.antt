pub mod FirstPlace
pub mod Accepted
pub mod InBlock
pub mod SideBySide
