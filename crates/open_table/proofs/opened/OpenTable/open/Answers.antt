use Rattle.std.proofs.Common.{◌≡◌, ◌*◌, true, length, ap, ◌∙◌, subst}
use Rattle.std.specs.Prelude.{slice_get}
use Rattle.row_moves.specs.Moves.{end_of}
use Rattle.open_table.specs.Marks.{count_stale}
use Rattle.open_table.specs.Passes.{at_higher_cost}
use Rattle.open_table.specs.Tables.{IndexedState, order_pairs}
use Rattle.open_table.specs.Open.{OpenState, IsEnded, opened, landed}
use Rattle.open_table.proofs.MakingLemmas.{pays_for}
use Rattle.open_table.proofs.opened.OpenTable.open.Goals as goal

pub open_made-requires-clause-paid : goal.open_made-requires-clause-paid
open_made-requires-clause-paid g c = λ stale.
    let t : IndexedState = c.args.self.now.table in
    let base : c.from.result * c.stale_in.result ≡ length t.rows * count_stale c.args.list.now t.marks =
    ap (λ n. n * c.stale_in.result) (c.from.ensures ∙ c.reccount.ensures.count)
    ∙ ap (λ k. length t.rows * k) (c.stale_in.ensures.value
    ∙ ap (λ (s : OpenState). count_stale c.args.list.now s.table.marks) c.self.view_is) in
    pays_for c.args.list.now t (c.from.result * c.stale_in.result) base stale

pub returns-clause-ends : goal.returns-clause-ends
returns-clause-ends g c = λ shown sees.
    let now : OpenState = c.args.self.now in
    let list = c.args.list.now in
    let base : c.from.result * c.stale_in.result ≡ length now.table.rows * count_stale list now.table.marks =
    ap (λ n. n * c.stale_in.result) (c.from.ensures ∙ c.reccount.ensures.count)
    ∙ ap (λ k. length now.table.rows * k) (c.stale_in.ensures.value
    ∙ ap (λ (s : OpenState). count_stale list s.table.marks) c.self.view_is) in
    subst (λ b. IsEnded (landed (opened list now)) now c.open_made.new.self (at_higher_cost b
    (end_of shown true (order_pairs (slice_get list 0) now.table))) c.args.budget c.open_made.result) base
    (c.open_made.ensures.ends shown sees)
