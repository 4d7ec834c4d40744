-- Definitions that serve proofs alone: no public clause cites them.
pub mod Associating
pub mod Attaching
pub mod Unchanged
pub mod Tokens
