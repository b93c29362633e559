use Rattle.std.proofs.Common.{◌≡◌, ◌+◌, ◌*◌, ◌<◌, true, length, map, ap, ◌∙◌, subst, arith}
use Rattle.std.specs.Fn.{FnReturnsAt}
use Rattle.dbf_file.specs.Rows.{unmarked}
use Rattle.row_moves.specs.Moves.{Lands, end_of, met}
use Rattle.open_table.specs.Passes.{at_higher_cost}
use Rattle.open_table.specs.Slots.{mark_of}
use Rattle.open_table.specs.Tables.{pairs_in_order}
use Rattle.open_table.specs.Tried.{ShowsRows}
use Rattle.open_table.proofs.closing.pack.Goals as goal

pub returns-in_default-clause-lands : goal.returns-in_default-clause-lands
returns-in_default-clause-lands g c = λ shown.
    let t = c.args.table.now in
    let marks = map mark_of c.args.slots.now.items in
    let rest = c.from.result * length c.args.list.now in
    let size : c.rows-count.result + rest ≡ length t.rows + length (unmarked t.rows) * length c.args.list.now =
    ap (λ n. n + rest) c.rows-count.ensures.count
    ∙ ap (λ k. length t.rows + k * length c.args.list.now) (c.from.ensures ∙ c.count_kept-kept.ensures.value) in
    subst (λ b. ShowsRows (FnReturnsAt g.F.Fn) c.args.see.now t.structure (unmarked t.rows) shown
    → c.args.budget < 1 + (b + met shown (pairs_in_order c.args.order marks (unmarked t.rows)))) size
    (c.in_default.ensures shown)

pub returns-in-Ok-pack-clause-lands : goal.returns-in-Ok-pack-clause-lands
returns-in-Ok-pack-clause-lands g c = λ shown.
    let t = c.args.table.now in
    let marks = map mark_of c.args.slots.now.items in
    let rest = c.from.result * length c.args.list.now in
    let size : c.rows-count.result + rest ≡ length t.rows + length (unmarked t.rows) * length c.args.list.now =
    ap (λ n. n + rest) c.rows-count.ensures.count
    ∙ ap (λ k. length t.rows + k * length c.args.list.now) (c.from.ensures ∙ c.count_kept-kept.ensures.value) in
    subst (λ b. ShowsRows (FnReturnsAt g.F.Fn) c.args.see.now t.structure (unmarked t.rows) shown
    → Lands (at_higher_cost b (end_of shown true (pairs_in_order c.args.order marks (unmarked t.rows))))
    c.args.budget c.in-Ok.landed) size (c.in-Ok.ensures shown)

pub returns-in-Err-clause-lands : goal.returns-in-Err-clause-lands
returns-in-Err-clause-lands g c = λ shown sees.
    let t = c.args.table.now in
    let marks = map mark_of c.args.slots.now.items in
    let rest = c.from.result * length c.args.list.now in
    let size : c.rows-count.result + rest ≡ length t.rows + length (unmarked t.rows) * length c.args.list.now =
    ap (λ n. n + rest) c.rows-count.ensures.count
    ∙ ap (λ k. length t.rows + k * length c.args.list.now) (c.from.ensures ∙ c.count_kept-kept.ensures.value) in
    let lands = subst (λ b. ShowsRows (FnReturnsAt g.F.Fn) c.args.see.now t.structure (unmarked t.rows) shown
    → Lands (at_higher_cost b (end_of shown true (pairs_in_order c.args.order marks (unmarked t.rows))))
    c.args.budget c.in-Ok.landed) size (c.in-Ok.ensures shown) sees in
    omega (arith, lands.within, lands.cost)
