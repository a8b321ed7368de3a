pub mod Sessions
pub mod NoHops
pub mod Parallel
pub mod Readings
