-- Definitions that serve proofs alone: no public clause cites them.
pub mod Crews
pub mod Joins
pub mod Passes
pub mod Plays
pub mod Workers
