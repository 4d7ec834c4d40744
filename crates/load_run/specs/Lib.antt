pub mod Messages
pub mod Commands
pub mod Counts
pub mod steps
