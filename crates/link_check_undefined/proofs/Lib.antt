pub mod Noting
pub mod Behind
pub mod Lasting
pub mod Told
pub mod Final
