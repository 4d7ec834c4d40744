-- Definitions that serve proofs alone: no public clause cites them.
pub mod Desks
pub mod Ending
pub mod Going
pub mod Joints
pub mod Orders
pub mod Running
pub mod Working
pub mod Cutting
pub mod Following
pub mod Traced
