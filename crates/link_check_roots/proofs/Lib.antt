pub mod Entries
pub mod MarkedAll
pub mod AtStage
