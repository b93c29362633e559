use Rattle.std.proofs.Common.{◌≡◌, ◌++◌, ◌∷◌, [], map, option_map, List}
use Rattle.prg_parser.specs.Blocks.{divide_at, innermost, takes_cases}
use Rattle.prg_parser.specs.Building.{head_lines, opens_lines, part_of_block}
use Rattle.prg_parser.specs.Layout.{body_lines, cases_lines}
use Rattle.prg_line.specs.Saying.{line as said_line}
use Rattle.prg_line.specs.Saying as saying
use Rattle.std.proofs.Common.{Option, refl, sym, ap, ◌∙◌}
use Rattle.prg_parser.proofs.BuildLemmas as by
use Rattle.prg_parser.specs.declared.blocks.Part.{Part}
use Rattle.prg_parser.specs.Building.{open_lines}
use Rattle.prg_parser.proofs.builder.ended_case.Goals as goal

pub returns : goal.returns
returns c = λ t.
    let o : c.args.blocks.items ≡ c.pop.new.self.items ++ c.in-Some.block ∷ [] = c.in-Some.ensures.items in
    let i =
    ap innermost (by.part_more c.pop.new.self.items c.args.blocks.items c.in-Some.block o)
    ∙ by.innermost_last (map part_of_block c.pop.new.self.items) (part_of_block c.in-Some.block) in
    let p =
    by.case_open c.in-Some.block.head
    (ap (λ (x : Option Part). takes_cases (option_map (λ part. part.place) x)) (sym i) ∙ t) in (
      by.last_case (opens_lines c.pop.new.self.items) (opens_lines c.args.blocks.items)
          (body_lines c.in-Some.block.before.items) (head_lines c.in-Some.block.line c.in-Some.block.head)
          (body_lines c.args.body.items)
          (said_line c.in-Some.block.line saying.DoCase ∷ cases_lines c.in_ok-cases_of.field-0.items)
          (by.put_more open_lines c.pop.new.self.items c.args.blocks.items c.in-Some.block
          (body_lines c.in-Some.block.before.items ++ head_lines c.in-Some.block.line c.in-Some.block.head) o refl)
          (c.in_ok-cases_of.ensures p c.in-Some.block.line),
      λ next. ap (λ (ps : List Part). divide_at ps (innermost ps) next)
          (by.part_more c.pop.new.self.items c.args.blocks.items c.in-Some.block o)
          ∙ by.divided_last (map part_of_block c.pop.new.self.items) (part_of_block c.in-Some.block) next,
    )
