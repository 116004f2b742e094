pub mod Hash
pub mod Item
pub mod Strings
pub mod Records
pub mod Image
pub mod Reading
pub mod ScriptItems
