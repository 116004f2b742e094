pub mod AtStage
pub mod SameNames
