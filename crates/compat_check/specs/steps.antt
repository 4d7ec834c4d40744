-- Definitions that serve proofs alone: no public clause cites them.
pub mod Names
pub mod Named
pub mod Skims
pub mod PairSets
pub mod Roots
pub mod Rounds
