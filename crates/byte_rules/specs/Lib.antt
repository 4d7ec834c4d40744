pub mod Among
pub mod Judged
pub mod Lang
pub mod Reading
pub mod steps
