pub mod Reading
pub mod Rooms
