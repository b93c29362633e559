pub mod Tried
pub mod Marks
pub mod Slots
pub mod Tables
pub mod Passes
pub mod Open
