pub mod Equations
pub mod Indexes
pub mod NamedBy
pub mod Steps
