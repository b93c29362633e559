-- What the contracts of `tagged_machine` say.
pub use Rattle.tagged_machine.specs.Seen
pub use Rattle.tagged_machine.specs.Reached
pub use Rattle.tagged_machine.specs.Faults
pub use Rattle.tagged_machine.specs.Run
pub use Rattle.tagged_machine.specs.World
pub use Rattle.fit_laws.specs.Fits
pub use Rattle.run_steps.specs.Shapes
