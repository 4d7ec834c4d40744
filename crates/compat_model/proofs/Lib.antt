pub mod Lists
pub mod Quiet
