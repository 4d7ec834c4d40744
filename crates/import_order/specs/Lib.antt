pub mod Errors
pub mod Numbers
pub mod Imports
pub mod Order
pub mod steps
