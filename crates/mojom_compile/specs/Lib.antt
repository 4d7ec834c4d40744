pub mod Causes
pub mod Compiled
pub mod Errors
pub mod Schemas
pub mod steps
