-- What the contracts of `machine` say.
pub use Rattle.machine.specs.Headline
pub use Rattle.machine.specs.Pauses
pub use Rattle.machine.specs.Twins
pub use Rattle.machine.specs.Run
pub use Rattle.machine.specs.World
pub use Rattle.machine.specs.Showing
pub use Rattle.fit_laws.specs.Fits
pub use Rattle.run_steps.specs.Shapes
