pub mod Forms
pub mod Views
pub mod Spelled
pub mod steps
