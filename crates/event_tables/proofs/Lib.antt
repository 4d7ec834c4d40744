mod Losing
mod Sent
pub mod Stepping
