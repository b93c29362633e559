use Rattle.std.proofs.Common.{◌++◌, ◌∷◌, [], map}
use Rattle.prg_parser.specs.Building.{awaited, built_parts, current_lines, finished_lines, opens_lines, part_of_block}
use Rattle.prg_parser.specs.Layout.{body_lines}
use Rattle.prg_line.specs.Saying.{line as said_line}
use Rattle.prg_line.specs.Saying as saying
use Rattle.std.proofs.Common.{sym, ap, ◌∙◌}
use Rattle.prg_parser.proofs.BuildLemmas as by
use Rattle.prg_parser.specs.declared.blocks.Place.TheVariants as within
use Rattle.prg_parser.specs.Layout.{Lines}
use Rattle.std.proofs.Common.{append_assoc}
use Rattle.prg_parser.proofs.builder.Builder.await_case.Goals as goal

pub returns : goal.returns
returns c = λ e. record {
  lines =
      by.grown (finished_lines c.args.self.finished) (opens_lines c.args.self.blocks.items)
      (current_lines c.args.self.current) (opens_lines c.args.self.blocks.items)
      (body_lines c.commands_of.result.items ++ said_line c.args.line saying.DoCase ∷ [])
      (said_line c.args.line saying.DoCase ∷ [])
      (ap (λ (ls : Lines). opens_lines c.args.self.blocks.items ++ (ls ++ said_line c.args.line saying.DoCase ∷ []))
      (sym (c.commands_of.ensures e)) ∙ sym
      (append_assoc (opens_lines c.args.self.blocks.items) (current_lines c.args.self.current)
      (said_line c.args.line saying.DoCase ∷ [])));
  parts =
      by.part_awaited (map part_of_block c.args.self.blocks.items) (awaited c.args.self.current)
      (record { place = within.BeforeCases; line = c.args.line }) e
      ∙ sym (by.after_do_case (built_parts c.args.self) c.args.line);
}
