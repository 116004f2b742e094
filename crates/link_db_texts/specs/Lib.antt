pub mod Causes
pub mod ReadTexts
pub mod Holds
