pub mod InTime
pub mod Shown
