pub mod Days
pub mod Endings
pub mod Exits
pub mod Operating
pub mod Parts
pub mod Rehearsals
pub mod Reports
pub mod Runs
