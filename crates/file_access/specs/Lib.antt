pub mod Holding
pub mod InMemory
