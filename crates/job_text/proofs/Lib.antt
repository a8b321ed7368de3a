pub mod Accepts
pub mod Adding
pub mod ReaderAnswers
pub mod Clearing
pub mod LineByLine
pub mod OneAnswer
pub mod OneLine
