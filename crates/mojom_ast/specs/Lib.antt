pub mod Classes
pub mod TypeTrees
pub mod Lang
pub mod Trees
pub mod Grammar
pub mod Parsed
pub mod steps
