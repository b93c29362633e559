pub mod Entries
pub mod Fields
pub mod Loop
pub mod Whole
