pub mod Batches
pub mod NextStage
pub mod Refusing
pub mod Passing
pub mod Holding
pub mod Answering
pub mod Standing
pub mod Cutting
