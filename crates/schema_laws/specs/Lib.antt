pub mod Passed
pub mod Refused
pub mod Whole
pub mod Kept
