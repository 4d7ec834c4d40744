pub mod FullNames
mod Backs
