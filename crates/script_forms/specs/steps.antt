-- Definitions that serve proofs alone: no public clause cites them.
pub mod Numbers
pub mod Sayings
pub mod Moves
