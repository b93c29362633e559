-- What the contracts of `run_laws` say.
pub use Rattle.run_steps.specs.Control
pub use Rattle.run_steps.specs.Faults
pub use Rattle.run_steps.specs.Needs
pub use Rattle.run_steps.specs.Opening
pub use Rattle.run_steps.specs.Pausing
pub use Rattle.run_steps.specs.Run
pub use Rattle.run_steps.specs.Safe
pub use Rattle.run_steps.specs.Shapes
pub use Rattle.run_steps.specs.World
pub use Rattle.run_steps.specs.declared.ending.End
pub use Rattle.run_steps.specs.declared.ending.Outcome
