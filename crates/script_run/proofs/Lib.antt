mod AllLines
pub mod Coming
mod Ending
pub mod JoinDone
mod Later
pub mod Traces
mod Gates
pub mod Joining
pub mod LineDone
mod LineTurns
mod OneEvent
pub mod OrderLists
mod OrderSteps
pub mod RunParts
pub mod Sequences
pub mod Serving
pub mod TakeTurns
pub mod TurnLemmas
pub mod Waking
mod DueReplies
mod EventShares
mod EventsDone
pub mod FewEvents
mod LineSends
mod ReadyEnd
mod NeverFull
mod CutTurns
pub mod Same
