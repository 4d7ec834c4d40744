pub mod Standing
pub mod steps
