pub mod FlagWords
pub mod Picking
