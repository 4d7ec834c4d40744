pub mod steps
pub mod Words
pub mod Kinds
pub mod Members
pub mod Changes
pub mod Pairs
pub mod Verdicts
