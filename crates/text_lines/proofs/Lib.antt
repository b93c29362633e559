pub mod LineLemmas
pub mod Joining
