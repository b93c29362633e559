use Rattle.std.proofs.Common.{◌∷◌, [], map}
use Rattle.prg_parser.specs.Building.{built_lines, built_parts, opens_lines, part_of_block}
use Rattle.prg_parser.specs.Layout.{body_lines, program_lines}
use Rattle.prg_line.specs.Saying.{line as said_line}
use Rattle.prg_line.specs.Saying as saying
use Rattle.std.proofs.Common.{sym, ap, ◌∙◌}
use Rattle.std.proofs.lemmas.List.{append-nil}
use Rattle.prg_parser.proofs.BuildLemmas as by
use Rattle.prg_parser.proofs.builder.Builder.start_procedure.Goals as goal

pub returns : goal.returns
returns c = λ e. record {
  lines =
      by.started (program_lines c.in_ok-program.program) (built_lines c.args.self) (opens_lines c.new.result.items)
      (body_lines c.new-2.result.items) (said_line c.args.line (saying.Procedure c.args.name.items) ∷ [])
      (c.in_ok-program.ensures.lines e) (ap opens_lines c.new.ensures.items) (ap body_lines c.new-2.ensures.items);
  parts =
      append-nil (map part_of_block c.new.result.items) ∙ ap (map part_of_block) c.new.ensures.items
      ∙ sym (by.after_procedure (built_parts c.args.self) c.args.line);
}
