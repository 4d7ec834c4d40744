pub mod Counts
pub mod Ends
pub mod Lines
pub mod Forgetting
pub mod Stepping
pub mod Quieting
pub mod Few
