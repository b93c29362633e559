use Rattle.std.proofs.Common.{◌≤◌, ◌+◌, length}
use Rattle.prg_parser.specs.HalfRead.{IsHalfRead}
use Rattle.prg_parser.specs.Lines as spec
use Rattle.text_lines.specs.Lines as text
use Rattle.prg_parser.proofs.half_read.read_file.Given as goal

abbrev pub invariant-loop-rest : goal.invariant-loop-rest
invariant-loop-rest l = record {
  stands : IsHalfRead (spec.joined_lines l.bytes)
      (spec.joined l.line (text.lines l.rest)) l.half.parts.items l.half.unended l.half.builder;
  numbered : l.line + length l.rest ≤ 1 + length l.bytes;
}

abbrev pub decreases-loop-rest : goal.decreases-loop-rest
decreases-loop-rest l = length l.rest
