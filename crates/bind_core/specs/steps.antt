-- Definitions that serve proofs alone: no public clause cites them.
pub mod FirstTaken
pub mod UnreadTakers
pub mod Watched
pub mod Watching
