pub mod Given
pub mod Results
pub mod Steps
pub mod SessionErrors
pub mod Sessions
pub mod Sizes
pub mod Standing
