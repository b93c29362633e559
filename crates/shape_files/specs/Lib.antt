pub mod Keys
pub mod Lines
pub mod Listing
pub mod Refusals
pub mod Shapes
