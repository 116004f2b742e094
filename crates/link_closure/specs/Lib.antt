pub mod Closure
pub mod Graph
pub mod Levels
pub mod Workload
