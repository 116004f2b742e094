pub mod Asking
pub mod Below
pub mod GroupObjects
pub mod Naming
pub mod Rooted
