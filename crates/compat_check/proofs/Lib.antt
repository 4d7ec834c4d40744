pub mod Noted
pub mod Named
pub mod StableRoots
pub mod PairOrder
pub mod OneMore
pub mod Levels
pub mod Turns
pub mod SomeVerdict
