pub mod Answer
pub mod steps
