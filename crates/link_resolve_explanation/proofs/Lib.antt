pub mod CheckedHeads
pub mod HeadedLists
pub mod Naming
pub mod Telling
pub mod Wrapping
