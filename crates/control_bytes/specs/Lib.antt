pub mod Controls
pub mod steps
