pub mod Parts
pub mod Runs
pub mod One
pub mod Exactly
mod Fronts
mod Lines
pub mod Judged
mod Trails
mod Verdicts
mod Counting
mod Differing
mod Compared
pub mod Printed
mod Sound
pub mod SameScripts
pub mod SomeAnswer
pub mod Counted
