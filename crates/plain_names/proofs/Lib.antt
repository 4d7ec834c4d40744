mod Sending
pub mod SettlingLemmas
