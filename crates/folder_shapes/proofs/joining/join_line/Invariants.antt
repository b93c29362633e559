use Rattle.std.proofs.Common.{◌≡◌, ◌≤◌, ◌+◌, length}
use Rattle.prg_parser.specs.Lines as spec
use Rattle.text_lines.specs.Lines as text
use Rattle.folder_shapes.proofs.joining.join_line.Given as goal

abbrev pub invariant-loop-rest : goal.invariant-loop-rest
invariant-loop-rest l = record {
  joined : spec.glue l.first l.text.items (spec.joined l.line (text.lines l.rest))
      ≡ spec.joined l.first (text.lines l.bytes);
  within : length l.rest ≤ length l.bytes;
  numbered : l.line + length l.rest ≤ l.first + length l.bytes;
}

abbrev pub decreases-loop-rest : goal.decreases-loop-rest
decreases-loop-rest l = length l.rest
