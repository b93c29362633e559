-- What the contracts of `run_commands` say.
pub use Rattle.run_commands.specs.Days
pub use Rattle.run_commands.specs.Endings
pub use Rattle.run_commands.specs.Exits
pub use Rattle.run_commands.specs.Operating
pub use Rattle.run_commands.specs.Parts
pub use Rattle.run_commands.specs.Rehearsals
pub use Rattle.run_commands.specs.Reports
pub use Rattle.run_commands.specs.Runs
