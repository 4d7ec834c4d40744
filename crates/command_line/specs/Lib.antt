pub mod Definition
pub mod Asked
