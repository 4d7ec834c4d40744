pub mod SmallLists
pub mod SmallSaid
mod SmallTests
mod SmallMoves
mod SmallPipes
mod SmallReplies
mod ShortReplies
pub mod SmallMail
pub mod SmallThings
mod SmallWire
mod SmallTexts
mod SmallCells
pub mod SmallBytes
mod SmallRuns
pub mod SmallFaults
pub mod SmallRows
mod SmallPlaces
pub mod SmallWireOf
mod SmallNotes
pub mod SmallEvents
mod Printable
mod NamedInterfaces
mod ValueBytes
pub mod ValueSent
mod ValueGot
pub mod ValueLists
mod ValueAsked
mod ValueSaid
mod ReadBack
pub mod Histories
