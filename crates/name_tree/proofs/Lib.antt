pub mod Walks
pub mod Steps
pub mod Numbers
pub mod Owners
