pub mod Items
pub mod Findings
pub mod Begins
pub mod Sweeping
