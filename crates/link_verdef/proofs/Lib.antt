pub mod Lawful
pub mod Places
pub mod Written
pub mod Search
pub mod Shape
pub mod Zeros
pub mod Reading
pub mod Texts
