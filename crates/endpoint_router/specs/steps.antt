-- Definitions that serve proofs alone: no public clause cites them.
pub mod SlotChanges
