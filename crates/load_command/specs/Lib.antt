pub mod LoadFile
pub mod LoadLine
