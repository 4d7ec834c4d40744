pub mod Controls
pub mod Rooms
