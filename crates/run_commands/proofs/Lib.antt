pub mod Ran
pub mod Reported
pub mod Same
pub mod Rehearsed
pub mod Operated
pub mod TestedParts
