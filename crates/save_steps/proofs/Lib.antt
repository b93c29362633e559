pub mod Can
pub mod Chains
pub mod Ending
pub mod Held
pub mod Judged
pub mod Kept
pub mod Runs
pub mod Stops
