pub mod Built
pub mod Short
pub mod Prepared
pub mod Decided
pub mod Forms
pub mod Named
pub mod Parts
pub mod Lines
