pub mod Audited
pub mod steps
