-- What the contracts of `file_commands` say.
pub use Rattle.file_commands.specs.Lines
pub use Rattle.file_commands.specs.Refusals
pub use Rattle.file_commands.specs.Reports
