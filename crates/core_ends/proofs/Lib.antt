pub mod Pended
pub mod Retiring
pub mod Shutting
pub mod Unbinding
mod Adding
pub mod Staying
pub mod Doing
mod Making
pub mod Made
pub mod Binding
pub mod Bound
pub mod Twins
