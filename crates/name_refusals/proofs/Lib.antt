pub mod Known
pub mod OneMore
pub mod Places
pub mod KnownTree
