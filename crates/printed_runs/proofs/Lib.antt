mod OwnEvents
mod SmallScript
mod SmallNames
mod SmallRun
pub mod SentWords
mod ValueTurns
mod SomeOrder
mod ValueScript
pub mod Runs
pub mod Fitting
