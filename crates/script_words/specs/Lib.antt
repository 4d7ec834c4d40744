pub mod Pieces
pub mod Letters
pub mod Words
pub mod steps
