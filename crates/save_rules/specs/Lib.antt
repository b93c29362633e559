pub mod Rules
pub mod Overwriting
pub mod Recorded
pub mod Unchanged
