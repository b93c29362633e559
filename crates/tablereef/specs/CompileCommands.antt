-- What the contracts of `compile_commands` say.
pub use Rattle.compile_commands.specs.Areas
pub use Rattle.compile_commands.specs.Compiling
pub use Rattle.compile_commands.specs.Listing
pub use Rattle.compile_commands.specs.Refusals
