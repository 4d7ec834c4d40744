pub mod Agreement
pub mod Changes
pub mod Plain
pub mod Rows
pub mod Slots
pub mod Table
pub mod Turns
pub mod steps
