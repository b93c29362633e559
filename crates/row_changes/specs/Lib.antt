pub mod Changes
pub mod Ordered
pub mod Turns
