pub mod Handed
pub mod Journals
pub mod Paths
pub mod Unfinished
