use Rattle.std.proofs.Common.{◌++◌}
use Rattle.prg_parser.specs.Building.{awaited, current_lines, finished_lines, head_lines, opens_lines}
use Rattle.prg_parser.specs.Layout.{body_lines}
use Rattle.std.proofs.Common.{refl, ap}
use Rattle.prg_parser.proofs.BuildLemmas as by
use Rattle.prg_parser.specs.Building.{open_lines}
use Rattle.prg_parser.proofs.builder.Builder.open.Goals as goal

pub returns : goal.returns
returns c = λ e. (
  by.grown (finished_lines c.args.self.finished) (opens_lines c.args.self.blocks.items)
      (current_lines c.args.self.current) (opens_lines c.in_ok-blocks.blocks.items) (body_lines c.new.result.items)
      (head_lines c.args.line c.args.head)
      (by.opened_lines (opens_lines c.args.self.blocks.items) (opens_lines c.in_ok-blocks.blocks.items)
      (body_lines c.commands_of.result.items) (current_lines c.args.self.current) (body_lines c.new.result.items)
      (head_lines c.args.line c.args.head)
      (by.put_more open_lines c.args.self.blocks.items c.in_ok-blocks.blocks.items
      (record { line = c.args.line; head = c.args.head; before = c.commands_of.result })
      (body_lines c.commands_of.result.items ++ head_lines c.args.line c.args.head) c.in_ok-blocks.ensures refl)
      (ap body_lines c.new.ensures.items) (c.commands_of.ensures e)),
  by.part_opened c.args.self.blocks.items c.in_ok-blocks.blocks.items
      (record { line = c.args.line; head = c.args.head; before = c.commands_of.result }) (awaited c.args.self.current)
      c.in_ok-blocks.ensures e,
)
