-- Definitions that serve proofs alone: no public clause cites them.
pub mod Cuts
pub mod Owners
pub mod Seen
pub mod Lengths
pub mod Held
