pub mod Callbacks
pub mod Ran
pub mod Shown
