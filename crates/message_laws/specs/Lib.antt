pub mod Filled
pub mod steps
