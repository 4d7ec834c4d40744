pub mod Crossing
mod KeptLists
