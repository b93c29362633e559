pub mod Seen
pub mod Reached
pub use Rattle.run_steps.specs.Faults
pub use Rattle.run_steps.specs.Run
pub use Rattle.run_steps.specs.World
