pub mod Definitions
pub mod Files
pub mod Parts
