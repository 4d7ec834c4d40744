pub mod Known
pub mod Needs
pub mod Meanings
pub mod steps
