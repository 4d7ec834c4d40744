pub mod Crossing
pub mod Stepping
