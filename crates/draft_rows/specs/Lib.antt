pub mod RowCounts
pub mod InterfaceVersions
pub mod Kinds
pub mod Rows
pub mod Drafts
pub mod steps
