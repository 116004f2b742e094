pub mod Items
pub mod Asked
pub mod Planned
pub mod Answer
pub mod Work
pub mod Requests
