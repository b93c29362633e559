pub mod Costs
pub mod Kept
pub mod Runs
