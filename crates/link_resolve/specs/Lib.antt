pub mod Known
pub mod Settled
pub mod Lists
pub mod Resolving
pub mod NextBatch
