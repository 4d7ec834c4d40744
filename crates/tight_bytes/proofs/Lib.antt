mod Writes
mod Cells
mod Putting
mod Flat
pub mod Values
mod Emitting
mod GoodRows
