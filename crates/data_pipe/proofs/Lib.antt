pub mod Flowing
pub mod InHistory
pub mod Tables
pub mod Agreeing
pub mod Busy
