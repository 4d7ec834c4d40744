pub mod Basics
pub mod Names
pub mod Definitions
pub mod Views
pub mod Causes
pub mod Refusals
