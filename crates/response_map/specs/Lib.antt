pub mod Contents
pub mod Keys
pub mod steps
