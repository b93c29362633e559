pub mod OneInstr
pub mod Operators
pub mod Readings
pub mod Placed
pub mod Written
