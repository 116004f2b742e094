pub mod Columns
pub mod AtStage
