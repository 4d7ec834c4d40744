pub mod AsCore
pub mod steps
