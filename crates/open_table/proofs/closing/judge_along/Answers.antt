use Rattle.std.proofs.Common.{true, ◌-◌, arith}
use Rattle.row_moves.specs.Moves.{end_of}
use Rattle.open_table.specs.Tables.{indexed, order_pairs}
use Rattle.open_table.proofs.closing.judge_along.Goals as goal

pub returns-in-Ok-clause-lands : goal.returns-in-Ok-clause-lands
returns-in-Ok-clause-lands g c = λ shown sees.
    let t = indexed c.args.table.now c.args.slots.now.items in
    c.dearer.ensures (end_of shown true (order_pairs c.args.order t)) c.args.budget (c.args.budget - c.args.base)
    (c.in-Ok.ensures.lands shown sees) (omega arith) (omega (arith, c.ranges.budget.fits))
