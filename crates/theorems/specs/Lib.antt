pub mod Demands
pub mod Jobs
pub mod Simple
pub mod TextRest
pub mod TextNumbers
pub mod TextPairs
