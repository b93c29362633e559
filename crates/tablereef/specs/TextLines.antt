-- What the contracts of `text_lines` say.
pub use Rattle.text_lines.specs.Lines
