pub mod Calls
pub mod Due
pub mod Held
pub mod Notes
pub mod Stepped
pub mod Waits
pub mod steps
