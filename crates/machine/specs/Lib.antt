pub mod Acceptance
pub mod Headline
pub mod Pauses
pub mod Twins
pub use Rattle.run_steps.specs.Run
pub use Rattle.run_steps.specs.World
pub mod Showing
