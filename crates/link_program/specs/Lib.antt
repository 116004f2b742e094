pub mod Arguments
pub mod Described
pub mod Grammar
pub mod Verdef
pub mod Check
pub mod Why
pub mod Gc
pub mod Outcome
