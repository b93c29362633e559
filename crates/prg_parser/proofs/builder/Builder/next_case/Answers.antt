use Rattle.std.proofs.Common.{◌++◌, ◌∷◌, [], map}
use Rattle.prg_expr.specs.Tree.{tree_of}
use Rattle.prg_parser.specs.Building.{IsChoice, built_parts, current_lines, finished_lines, head_lines, opens_lines}
use Rattle.prg_parser.specs.Building.{part_of_block}
use Rattle.prg_parser.specs.Layout.{body_lines, cases_lines}
use Rattle.prg_line.specs.Saying.{line as said_line}
use Rattle.prg_line.specs.Saying as saying
use Rattle.std.proofs.Common.{refl, sym, ap, ◌∙◌}
use Rattle.std.proofs.lemmas.List.{append-nil}
use Rattle.prg_parser.proofs.BuildLemmas as by
use Rattle.prg_parser.specs.declared.blocks.Place.TheVariants as within
use Rattle.prg_line.specs.declared.role.Role.TheVariants as role
use Rattle.prg_parser.specs.declared.builder.Open.TheVariants as begun
use Rattle.prg_parser.specs.Building.{open_lines}
use Rattle.prg_parser.specs.declared.builder.OpenBlock.{OpenBlock}
use Rattle.prg_parser.proofs.builder.Builder.next_case.Goals as goal

pub returns : goal.returns
returns c = λ e.
    let ch : IsChoice c.args.self.blocks c.args.self.current c.in_ok-blocks.field-0 =
    c.in_ok-blocks.ensures (by.standing (built_parts c.args.self) role.Case e) in
    let b : OpenBlock = record {
      line = c.in_ok-blocks.field-0.line;
      head = (begun.Case c.in_ok-blocks.field-0.cases c.args.line c.args.condition);
      before = c.in_ok-blocks.field-0.before;
    } in
    record {
      lines =
          by.grown (finished_lines c.args.self.finished) (opens_lines c.args.self.blocks.items)
          (current_lines c.args.self.current) (opens_lines c.in_ok-blocks-2.blocks.items)
          (body_lines c.new.result.items) (said_line c.args.line (saying.Case (tree_of c.args.condition)) ∷ [])
          (by.chosen_lines (opens_lines c.in_ok-blocks.field-0.blocks.items) (opens_lines c.in_ok-blocks-2.blocks.items)
          (body_lines c.in_ok-blocks.field-0.before.items) (body_lines c.new.result.items)
          (head_lines c.in_ok-blocks.field-0.line
          (begun.Case c.in_ok-blocks.field-0.cases c.args.line c.args.condition))
          (said_line c.in_ok-blocks.field-0.line saying.DoCase ∷ cases_lines c.in_ok-blocks.field-0.cases.items)
          (said_line c.args.line (saying.Case (tree_of c.args.condition)) ∷ [])
          (opens_lines c.args.self.blocks.items ++ current_lines c.args.self.current)
          (by.put_more open_lines c.in_ok-blocks.field-0.blocks.items c.in_ok-blocks-2.blocks.items b
          (body_lines c.in_ok-blocks.field-0.before.items ++ head_lines c.in_ok-blocks.field-0.line
          (begun.Case c.in_ok-blocks.field-0.cases c.args.line c.args.condition)) c.in_ok-blocks-2.ensures refl)
          (ap body_lines c.new.ensures.items) ch.lines refl);
      parts =
          append-nil (map part_of_block c.in_ok-blocks-2.blocks.items)
          ∙ by.part_more c.in_ok-blocks.field-0.blocks.items c.in_ok-blocks-2.blocks.items b c.in_ok-blocks-2.ensures
          ∙ sym (by.after_case (built_parts c.args.self) c.args.line ∙ ch.parts within.InCase);
    }
