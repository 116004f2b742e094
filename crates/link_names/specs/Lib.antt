pub mod NameText
pub mod NameHash
pub mod PassThrough
pub mod RawName
pub mod SpecialNames
pub mod Names
