-- Definitions that serve proofs alone: no public clause cites them.
pub mod Names
pub mod Interfaces
pub mod Commands
pub mod Lines
