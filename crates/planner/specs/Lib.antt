pub mod PacketsInLists
pub mod Entries
pub mod Again
pub mod EntriesAdded
pub mod Cuts
pub mod Told
pub mod StartedPackets
