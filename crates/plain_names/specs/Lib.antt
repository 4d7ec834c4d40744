pub mod Held
pub mod Commands
pub mod Settled
pub mod steps
