pub mod Steps
pub mod Finishing
pub mod Folders
pub mod Devices
pub mod Points
pub mod PowerCuts
