pub mod Cases
pub mod Fine
pub mod SameNumbers
pub mod SameSlots
pub mod SameObjects
pub mod SameHeaders
pub mod SameMessages
