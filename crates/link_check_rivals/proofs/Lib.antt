mod OneList
mod Heads
mod Tables
