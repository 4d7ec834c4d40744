pub mod Counting
pub mod Balance
pub mod Cases
mod MoveOutcomes
pub mod Outcomes
pub mod Kept
pub mod Moving
pub mod Keeping
pub mod Fresh
pub mod Responses
pub mod OriginLemmas
pub mod TableLemmas
pub mod Pauses
pub mod DataLemmas
pub mod TableAfter
pub mod Entering
pub mod Telling
pub mod Turns
pub mod PendingLists
pub mod Turning
pub mod TurningOut
pub mod TurnOf
pub mod Controls
pub mod Growing
pub mod PendingFacts
pub mod Askers
mod SmallWire
mod Worked
mod Played
pub mod FlushLemmas
pub mod NameOrder
pub mod ResponderCounts
pub mod PendingTable
pub mod CoreFacts
pub mod Crossing
pub mod PeerLemmas
