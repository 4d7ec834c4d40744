pub mod NoHelp
pub mod Orders
pub mod Messages
