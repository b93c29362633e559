-- What the contracts of `screen_lines` say.
pub use Rattle.screen_lines.specs.Roll
pub use Rattle.screen_lines.specs.State
pub use Rattle.screen_lines.specs.Commands
pub use Rattle.screen_lines.specs.Shape
pub use Rattle.screen_lines.specs.Kept
