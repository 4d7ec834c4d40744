-- Definitions that serve proofs alone: no public clause cites them.
pub mod Views
pub mod RowNumbers
pub mod RowPlaces
