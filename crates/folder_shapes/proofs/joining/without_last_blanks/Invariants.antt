use Rattle.std.proofs.Common.{◌≡◌, length, reverse}
use Rattle.prg_parser.specs.Lines.{without_indent}
use Rattle.folder_shapes.proofs.joining.without_last_blanks.Given as goal

abbrev pub invariant-loop-text : goal.invariant-loop-text
invariant-loop-text l = without_indent (reverse l.text) ≡ without_indent (reverse l.line)

abbrev pub decreases-loop-text : goal.decreases-loop-text
decreases-loop-text l = length l.text
