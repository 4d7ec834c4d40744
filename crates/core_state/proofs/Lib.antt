pub mod Routing
pub mod Turned
pub mod Steady
pub mod After
pub mod Still
pub mod Held
pub mod Emitted
pub mod Named
pub mod Entered
pub mod Facts
pub mod Opening
mod Closing
pub mod Closed
pub mod Placed
mod Differing
pub mod Parted
pub mod Numbers
pub mod Quiet
pub mod Responding
pub mod Pausing
pub mod Tabled
pub mod Leaving
