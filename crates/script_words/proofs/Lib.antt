pub mod Slices
pub mod Splits
pub mod LineWords
pub mod Parts
