pub mod LookUp
pub mod Enums
pub mod NamesOf
pub mod Places
pub mod NameDots
pub mod Seats
pub mod steps
