mod Beside
mod Callbacks
mod Orders
mod Ranges
