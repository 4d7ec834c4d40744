pub mod Causes
pub mod Covers
pub mod EndSets
pub mod Play
pub mod Takers
pub mod steps
