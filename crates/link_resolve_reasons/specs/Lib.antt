pub mod Requests
pub mod Firsts
pub mod Told
pub mod Known
