pub mod Known
pub mod Uses
pub mod NameRefusals
pub mod Resolved
pub mod steps
