pub mod Agreeing
pub mod Entering
mod Keys
mod Placed
mod Routing
mod SlotLemmas
pub mod Stepping
mod Tables
pub mod Turning
pub mod Undrawn
