pub mod Tests
pub mod Sums
pub mod Hits
pub mod Places
pub mod Distinct
