pub mod Bindings
pub mod Growth
pub mod Numbers
pub mod Parts
pub mod Pools
pub mod Merging
pub mod Remembering
pub mod Rooms
