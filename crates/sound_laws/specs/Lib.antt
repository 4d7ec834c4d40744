pub mod Sound
pub mod Strings
