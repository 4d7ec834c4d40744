-- Definitions that serve proofs alone: no public clause cites them.
pub mod Paused
pub mod Posted
pub mod Same
pub mod Spends
pub mod Tokens
