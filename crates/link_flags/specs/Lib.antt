pub mod Strictness
pub mod Pick
pub mod Selector
pub mod FlagBits
pub mod FlagTable
pub mod FlagText
pub mod FlagWords
