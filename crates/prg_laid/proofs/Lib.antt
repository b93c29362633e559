pub mod Finding
pub mod Knowing
pub mod Numbered
