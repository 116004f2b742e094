mod Places
mod FirstKept
mod Listing
mod Discarding
