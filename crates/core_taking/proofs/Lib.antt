pub mod PendingMade
mod Admitting
mod CarriedIds
mod HandedOut
mod Getting
pub mod Looking
mod Fronts
mod Taking
mod SlotsNoted
mod SlotsNamed
pub mod Taken
pub mod Obeying
pub mod Answering
pub mod LetGo
pub mod Receiving
mod Handing
mod Marking
pub mod WireReads
pub mod Arriving
pub mod Arrives
mod PendingsOut
pub mod HandlesFew
