mod Choosing
mod Counted
mod Cut
mod Joined
mod Walked
