pub mod Walk
pub mod Passing
pub mod OwnSymbols
pub mod Outlined
pub mod Listed
pub mod Marks
