pub mod Bytes
pub mod Words
pub mod Numbers
pub mod Strings
pub mod Pieces
pub mod Lexed
pub mod steps
