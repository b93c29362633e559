use Rattle.std.proofs.Common.{◌≡◌, ◌++◌, ◌∷◌, [], map, option_map}
use Rattle.prg_parser.specs.Building.{awaited, built_parts, current_lines, finished_lines, head_lines, opens_lines}
use Rattle.prg_parser.specs.Building.{part_of_block}
use Rattle.prg_parser.specs.Layout.{body_lines}
use Rattle.prg_line.specs.Saying.{line as said_line}
use Rattle.prg_line.specs.Saying as saying
use Rattle.std.proofs.Common.{Option, refl, sym, ap, ◌∙◌, arith}
use Rattle.std.proofs.lemmas.List.{nil_from_length}
use Rattle.prg_parser.proofs.BuildLemmas as by
use Rattle.prg_parser.specs.declared.blocks.Part.{Part}
use Rattle.prg_parser.specs.declared.blocks.Place.TheVariants as within
use Rattle.prg_line.specs.declared.role.Role.TheVariants as role
use Rattle.prg_parser.specs.Building.{open_lines}
use Rattle.prg_parser.specs.Blocks.{is_then}
use Rattle.prg_parser.specs.declared.builder.OpenBlock.{OpenBlock}
use Rattle.prg_parser.proofs.builder.Builder.divide_if.Goals as goal

pub returns-in_default : goal.returns-in_default
returns-in_default c = λ e.
    let t = by.standing (built_parts c.args.self) role.Else e in
    let n : c.args.self.blocks.items ≡ [] =
    nil_from_length c.args.self.blocks.items
    (omega (arith, c.args.self.blocks.ok.0, c.in_default.ensures.cases.0)) in
    absurd (by.none_open is_then refl (map part_of_block c.args.self.blocks.items) (awaited c.args.self.current)
    (ap (map part_of_block) n) (by.no_case_then (map part_of_block c.args.self.blocks.items) c.args.self.current t)
    t)

pub returns : goal.returns
returns c = λ e.
    let t = by.standing (built_parts c.args.self) role.Else e in
    let a = by.no_case_then (map part_of_block c.args.self.blocks.items) c.args.self.current t in
    let i =
    by.inner_here c.pop.new.self.items c.args.self.blocks.items c.in-Some.block (awaited c.args.self.current)
    c.in-Some.ensures.items a in
    let th =
    by.then_open c.in-Some.block.head
    (ap (λ (o : Option Part). is_then (option_map (λ part. part.place) o)) (sym i) ∙ t) in
    let b : OpenBlock = record {
      line = c.in-Some.block.line;
      head = c.else_of-head.result;
      before = c.in-Some.block.before;
    } in
    record {
      lines =
          by.grown (finished_lines c.args.self.finished) (opens_lines c.args.self.blocks.items)
          (current_lines c.args.self.current) (opens_lines c.in_ok-blocks.blocks.items) (body_lines c.new.result.items)
          (said_line c.args.line saying.Else ∷ [])
          (by.divided_lines (opens_lines c.pop.new.self.items) (opens_lines c.args.self.blocks.items)
          (opens_lines c.in_ok-blocks.blocks.items) (body_lines c.in-Some.block.before.items)
          (current_lines c.args.self.current) (body_lines c.new.result.items)
          (head_lines c.in-Some.block.line c.in-Some.block.head) (head_lines c.in-Some.block.line c.else_of-head.result)
          (body_lines c.commands_of.result.items) (said_line c.args.line saying.Else ∷ [])
          (by.put_more open_lines c.pop.new.self.items c.in_ok-blocks.blocks.items b
          (body_lines c.in-Some.block.before.items ++ head_lines c.in-Some.block.line c.else_of-head.result)
          c.in_ok-blocks.ensures refl)
          (ap body_lines c.new.ensures.items)
          (by.put_more open_lines c.pop.new.self.items c.args.self.blocks.items c.in-Some.block
          (body_lines c.in-Some.block.before.items ++ head_lines c.in-Some.block.line c.in-Some.block.head)
          c.in-Some.ensures.items refl)
          (c.commands_of.ensures a)
          (c.else_of-head.ensures.lines th c.in-Some.block.line));
      parts =
          by.parts_divided c.pop.new.self.items c.args.self.blocks.items c.in_ok-blocks.blocks.items c.in-Some.block b
          (awaited c.args.self.current) within.InElse c.in-Some.ensures.items a c.in_ok-blocks.ensures
          (c.else_of-head.ensures.place th) refl
          ∙ sym (by.after_else (built_parts c.args.self) c.args.line);
    }
