mod Heads
mod Reading
mod Past
mod Ids
mod Pendings
mod Sends
mod Values
mod Bounds
pub mod Own
mod Twice
mod Numbered
pub mod Once
pub mod Behind
