pub mod Held
pub mod Filled
pub mod Worlds
pub mod Going
