-- Definitions that serve proofs alone: no public clause cites them.
pub mod Places
pub mod Turning
pub mod Joining
pub mod Following
pub mod Draining
