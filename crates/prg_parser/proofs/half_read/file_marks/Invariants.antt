use Rattle.std.proofs.Common.{◌≡◌, ◌≤◌, ◌+◌, ◌++◌, length, map}
use Rattle.prg_parser.specs.Lines as spec
use Rattle.prg_parser.specs.Marks.{line_mark, marks}
use Rattle.text_lines.specs.Lines as text
use Rattle.prg_parser.proofs.half_read.file_marks.Given as goal

abbrev pub invariant-loop-rest : goal.invariant-loop-rest
invariant-loop-rest l = record {
  marks : l.found.items ++ map line_mark (spec.joined l.line (text.lines l.rest)) ≡ marks l.bytes;
  numbered : l.line + length l.rest ≤ 1 + length l.bytes;
}

abbrev pub decreases-loop-rest : goal.decreases-loop-rest
decreases-loop-rest l = length l.rest
