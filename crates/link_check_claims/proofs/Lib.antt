pub mod Holding
pub mod Linked
pub mod Making
