pub mod Roll
pub mod State
pub mod Commands
pub mod Shape
pub mod Kept
