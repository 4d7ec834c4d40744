pub mod Requests
pub mod Sealed
