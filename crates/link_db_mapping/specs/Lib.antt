pub mod Keys
pub mod Parts
pub mod Tables
pub mod Mapped
pub mod Changes
pub mod Batches
pub mod Seen
pub mod PlainNames
