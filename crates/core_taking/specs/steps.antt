-- Definitions that serve proofs alone: no public clause cites them.
pub mod Marks
pub mod Pending
pub mod Slots
