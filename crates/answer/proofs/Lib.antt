pub mod Printing
pub mod OneAnswer
