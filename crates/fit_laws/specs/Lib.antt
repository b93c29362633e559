pub mod Fits
pub mod Connects
pub mod FilterWalks
