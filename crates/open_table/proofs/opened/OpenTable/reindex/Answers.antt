use Rattle.std.proofs.Common.{◌≡◌, ℕ, ◌*◌, true, Option, length, sym, ap, ◌∙◌, subst, arith}
use Rattle.std.specs.Fn.{FnReturnsAt}
use Rattle.row_moves.specs.Moves.{Landing, end_of}
use Rattle.open_table.specs.Passes.{at_higher_cost, EndsWithMove}
use Rattle.open_table.specs.Tables.{IndexedState, indexed, remade, order_pairs}
use Rattle.open_table.specs.Tried.{ShowsRows}
use Rattle.open_table.specs.Open.{OpenState, IsOpen, in_table, order_index}
use Rattle.open_table.proofs.OpenLemmas.{open_remade, either, ended_by, on_ok, on_err, used}
use Rattle.open_table.proofs.opened.OpenTable.reindex.Goals as goal

pub invariant_of-self : goal.invariant_of-self
invariant_of-self g c =
    let old : IndexedState = indexed c.self.inside.table c.self.inside.slots.items in
    let new : IndexedState = indexed c.self.inside.table c.make_and_top-ended.new.slots.items in
    let list = c.self.inside.list.items in
    let after : IndexedState = remade c.as_slice.result.now old in
    record {
      lists = c.make_and_top-ended.ensures.lists;
      is_open = either c.make_and_top-ended.result (new ≡ after) _ (IsOpen new list c.self.inside.order)
          c.make_and_top-ended.ensures.ok c.make_and_top-ended.ensures.err
          (λ e. open_remade old new list c.as_slice.result.now c.self.inside.order c.self.invariant.is_open
          (ap (λ (t : IndexedState). t.marks) {y = after} e))
          (λ e. subst (λ xs. IsOpen (indexed c.self.inside.table xs) list c.self.inside.order) (sym e)
          c.self.invariant.is_open);
    }

pub returns-clause-ends : goal.returns-clause-ends
returns-clause-ends g c = λ shown sees.
    let now : OpenState = c.args.self.now in
    let inside = c.self.inside in
    let numbers = c.as_slice.result.now in
    let ended = c.make_and_top-ended in
    let old : IndexedState = indexed inside.table inside.slots.items in
    let new : IndexedState = indexed inside.table ended.new.slots.items in
    let table : old ≡ now.table = ap (λ (s : OpenState). s.table) c.self.view_is in
    let list : inside.list.items ≡ now.list = ap (λ (s : OpenState). s.list) c.self.view_is in
    let with_it : IndexedState → OpenState =
    used inside.list.items inside.order inside.pointer inside.bof inside.found in
    let changed : OpenState → OpenState = λ a. in_table a (remade a.list a.table) in
    let made : with_it (remade numbers old) ≡ changed now =
    ap (λ l. with_it (remade l old)) c.as_slice.ensures.value ∙ ap changed c.self.view_is in
    let ok = on_ok ended.result (new ≡ remade numbers old) (with_it new ≡ changed now) (λ e. ap with_it e ∙ made)
    ended.ensures.ok in
    let err = on_err ended.result (ended.new.slots.items ≡ inside.slots.items) (with_it new ≡ now)
    (λ e. ap (λ xs. with_it (indexed inside.table xs)) e ∙ c.self.view_is) ended.ensures.err in
    let landing : ℕ → Option ℕ → IndexedState → Landing =
    λ base o t. at_higher_cost base (end_of shown true (order_pairs o t)) in
    let base : ℕ = c.from.result * c.len.result in
    let paid : base ≡ length now.table.rows * length now.list =
    ap (λ n. n * c.len.result) (c.from.ensures ∙ c.reccount.ensures.count)
    ∙ ap (λ k. length now.table.rows * k) (c.len.ensures.value ∙ ap length list) in
    let said = subst (λ (t : IndexedState). ShowsRows (FnReturnsAt g.F.Fn) c.args.see t.structure t.rows shown
    → EndsWithMove (landing base c.order_index-order.result t) c.args.budget ended.result) table
    (ended.ensures.lands shown) sees in
    let higher = subst (λ b. EndsWithMove (landing b c.order_index-order.result now.table) c.args.budget ended.result)
    paid said in
    let ordered = subst (λ (o : Option ℕ). EndsWithMove
    (landing (length now.table.rows * length now.list) o now.table) c.args.budget ended.result)
    c.order_index-order.ensures.value higher in
    let led : Landing =
    landing (length now.table.rows * length now.list) (order_index now.order now.list) now.table in
    ended_by ended.result c.finish.result now (with_it new) (changed now) c.finish.new.self led c.args.budget ok err
    c.finish.ensures.same (c.finish.ensures.ends led c.args.budget ordered)

pub returns-clause-few : goal.returns-clause-few
returns-clause-few g c =
    let was = ap (λ (s : OpenState). length s.table.rows) c.self.view_is in
    let is = ap (λ (t : IndexedState). length t.rows) c.finish.ensures.table in omega (arith, was, is)
