pub mod Agree
pub mod steps
