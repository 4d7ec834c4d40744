pub mod KindTexts
pub mod Listing
