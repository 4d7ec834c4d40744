-- Definitions that serve proofs alone: no public clause cites them.
pub mod Reports
pub mod Stops
pub mod Fetches
pub mod Messages
pub mod Made
pub mod Loads
pub mod Audits
pub mod Pairs
