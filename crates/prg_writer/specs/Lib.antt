pub mod Arguments
pub mod Faults
pub mod Naming
pub mod Targets
pub mod Writing
