pub mod Growth
pub mod Meeting
pub mod Remembering
mod Constants
mod Naming
mod Numbers
mod Rooms
mod Sameness
