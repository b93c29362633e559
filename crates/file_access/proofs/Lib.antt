pub mod Entries
pub mod Holding
