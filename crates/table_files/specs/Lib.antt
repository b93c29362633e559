pub mod Loading
pub mod Names
pub mod Refusals
pub mod Saving
