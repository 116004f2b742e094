pub mod Columns
pub mod Noted
pub mod Made
pub mod Told
