pub mod Lists
pub mod Keeping
pub mod Steps
pub mod Seats
pub mod Telling
