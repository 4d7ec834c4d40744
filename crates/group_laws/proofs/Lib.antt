mod Enough
mod Elsewhere
mod Agrees
mod Holding
mod Sides
mod Lists
mod Outside
mod Agreeing
mod Reading
mod Replying
mod Real
pub mod Law
