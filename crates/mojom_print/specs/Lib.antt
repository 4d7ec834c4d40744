pub mod Words
pub mod Attributes
pub mod Types
pub mod Definitions
pub mod Interfaces
pub mod FileText
pub mod Unplaced
pub mod Again
