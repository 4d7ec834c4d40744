pub mod Order
pub mod OfScript
pub mod AtDesk
pub mod Working
pub mod Draining
pub mod Rooms
pub mod Followed
pub mod steps
