pub mod Lists
pub mod Given
pub mod Passing
pub mod steps
