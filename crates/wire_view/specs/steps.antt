-- Definitions that serve proofs alone: no public clause cites them.
pub mod Lists
pub mod Placed
pub mod Proper
pub mod SlotNumbers
