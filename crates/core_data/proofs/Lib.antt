pub mod Spotted
pub mod Flowing
pub mod Staying
