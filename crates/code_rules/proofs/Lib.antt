pub mod BlockLists
pub mod Keeping
pub mod Covering
pub mod Incoming
