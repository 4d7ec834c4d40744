pub mod Kept
pub mod Seen
pub mod Table
pub mod Agreement
