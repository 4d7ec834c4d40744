pub mod Targets
pub mod Script
pub mod Same
pub mod Sound
pub mod steps
