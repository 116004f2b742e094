pub mod ObjectGroups
pub mod Tables
pub mod Selected
pub mod InOrder
pub mod Lending
