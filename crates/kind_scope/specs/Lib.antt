pub mod Scopes
pub mod Members
pub mod Versions
pub mod Attributes
pub mod Views
