pub mod Meaning
pub mod Rows
pub mod Seeing
