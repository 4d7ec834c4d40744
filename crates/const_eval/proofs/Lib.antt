pub mod Steps
pub mod OneAnswer
