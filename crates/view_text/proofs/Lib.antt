pub mod LeafTexts
pub mod Printed
pub mod Shaped
