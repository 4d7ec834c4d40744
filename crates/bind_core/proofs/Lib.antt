pub mod EndOrder
pub mod WhoTakes
pub mod Untouched
pub mod NearAsked
mod Leasts
pub mod Leastness
pub mod FirstReady
pub mod Covering
pub mod Settled
pub mod SoleStepper
mod CauseLists
pub mod Waking
