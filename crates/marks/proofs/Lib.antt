pub mod Marking
pub mod OneAnswer
