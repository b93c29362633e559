-- What the contracts of `prg_parser` say.
pub use Rattle.prg_parser.specs.Blocks
pub use Rattle.prg_parser.specs.Building
pub use Rattle.prg_parser.specs.Commands
pub use Rattle.prg_parser.specs.Files
pub use Rattle.prg_parser.specs.HalfRead
pub use Rattle.prg_parser.specs.Joined
pub use Rattle.prg_parser.specs.Layout
pub use Rattle.prg_parser.specs.Lines
pub use Rattle.prg_parser.specs.Listing
pub use Rattle.prg_parser.specs.Marks
pub use Rattle.prg_parser.specs.Verdict
pub use Rattle.prg_expr.specs.Faults
pub use Rattle.prg_line.specs.Saying
pub use Rattle.prg_expr.specs.Tree
