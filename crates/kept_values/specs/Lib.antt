pub mod KeptTrees
pub mod steps
