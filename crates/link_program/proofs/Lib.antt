pub mod Numerals
pub mod TooLong
pub mod OneText
pub mod OfWorld
pub mod VerdefEndings
pub mod WhyText
pub mod CheckText
