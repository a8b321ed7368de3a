pub mod Lists
pub mod Told
pub mod Visited
