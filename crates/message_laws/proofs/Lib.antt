pub mod RowsThere
pub mod Numbers
pub mod Absent
pub mod KindedSlots
pub mod KindedObjects
pub mod Open
pub mod FilledSchemas
pub mod OfItsKind
