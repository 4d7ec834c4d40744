pub mod Readable
pub mod steps
