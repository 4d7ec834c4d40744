pub mod OneWay
pub mod KnownTurns
pub mod OneHistory
