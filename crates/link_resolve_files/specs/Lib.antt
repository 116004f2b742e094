pub mod ResolvedFiles
pub mod ResolvedText
pub mod Resolving
pub mod Places
