use Rattle.std.proofs.Common.{true, List, map, subst}
use Rattle.std.specs.Fn.{FnReturnsAt}
use Rattle.dbf_file.specs.Rows.{Row}
use Rattle.row_moves.specs.Moves.{IsMove, end_of}
use Rattle.open_table.specs.Passes.{at_higher_cost}
use Rattle.open_table.specs.Slots.{mark_of}
use Rattle.open_table.specs.Tables.{pairs_in_order}
use Rattle.open_table.specs.Tried.{ShowsRows}
use Rattle.open_table.proofs.MakingLemmas.{every_kept}
use Rattle.open_table.proofs.closing.judge.Goals as goal

pub returns-clause-lands : goal.returns-clause-lands
returns-clause-lands g c = λ shown.
    let t = c.args.table.now in
    let marks = map mark_of c.args.slots.now.items in
    subst (λ (rs : List Row). ShowsRows (FnReturnsAt g.F.Fn) c.args.see.now t.structure rs shown
    → IsMove (at_higher_cost c.args.base (end_of shown true (pairs_in_order c.args.order marks rs))) c.args.budget
    c.judge_kept.result) (every_kept t.rows)
    (c.judge_kept.ensures shown)
