pub mod Parsed
pub mod steps
