pub mod Regular
pub mod Indexed
pub mod Discarded
pub mod Signatures
pub mod Checked
