use Rattle.std.proofs.Common.{◌≡◌, ◌≤◌, ◌+◌, length, map, option_map}
use Rattle.prg_parser.specs.Lines as parser
use Rattle.text_lines.specs.Lines as text
use Rattle.folder_shapes.specs.Programs as spec
use Rattle.folder_shapes.proofs.mentions.take_lines.Given as goal

abbrev pub invariant-loop-rest : goal.invariant-loop-rest
invariant-loop-rest l = record {
  named : spec.with_all_named (spec.named_from l.fn.file (option_map spec.in_use l.used)
      (parser.joined l.line (text.lines l.rest))) (map spec.named_in l.mentions.items)
      ≡ spec.with_all_named (spec.names_of_file l.fn.file l.fn.bytes) (map spec.named_in l.fn.mentions.items);
  numbered : l.line + length l.rest ≤ 1 + length l.fn.bytes;
}

abbrev pub decreases-loop-rest : goal.decreases-loop-rest
decreases-loop-rest l = length l.rest
