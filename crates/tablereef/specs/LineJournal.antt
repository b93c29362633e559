-- What the contracts of `line_journal` say.
pub use Rattle.line_journal.specs.Kept
