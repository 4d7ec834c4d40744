mod WordNames
mod WordTexts
mod WordMeanings
mod WordTrees
mod WordRows
mod WordsOfTables
mod SmallVersions
mod SmallNumbers
pub mod Schemas
pub mod OfFiles
