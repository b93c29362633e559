pub mod Areas
pub mod Compiling
pub mod Listing
pub mod Refusals
