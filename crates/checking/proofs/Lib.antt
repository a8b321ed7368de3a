pub mod InTurn
pub mod BothTexts
pub mod Printing
pub mod OneAnswer
