pub mod TableLemmas
pub mod NameLemmas
mod LineLemmas
pub mod WhatIsTold
pub mod LineNames
pub mod RoomsSettled
