pub mod Read
pub mod steps
