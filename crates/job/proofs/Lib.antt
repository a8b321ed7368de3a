pub mod AfterVerdict
pub mod VerdictLoops
pub mod OneAnswer
pub mod VisitedMarks
pub mod Pairs
