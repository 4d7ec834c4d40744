-- Definitions that serve proofs alone: no public clause cites them.
pub mod Begun
pub mod Judging
pub mod Said
