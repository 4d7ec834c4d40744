pub mod Drawing
pub mod Following
pub mod Later
pub mod Newest
pub mod Noting
pub mod Requests
