mod Fitted
mod Calling
mod Sending
mod Spending
pub mod RawWays
pub mod Called
mod Replying
pub mod Replied
pub mod Notifying
pub mod Waiting
