pub mod LeadingSteps
mod Rows
pub mod RowWorks
pub mod Results
mod BlockSteps
mod Drafts
pub mod FilterRuns
pub mod Walks
pub mod Steps
pub mod Runs
pub mod Costs
pub mod Pauses
