mod Covering
mod Reserving
