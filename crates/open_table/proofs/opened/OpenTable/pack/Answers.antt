use Rattle.std.proofs.Common.{◌≡◌, ℕ, ◌+◌, ◌*◌, true, Option, List, length, sym, ap, ◌∙◌, subst, arith}
use Rattle.std.specs.Fn.{FnReturnsAt}
use Rattle.dbf_file.specs.Rows.{unmarked}
use Rattle.row_moves.specs.Moves.{Landing, end_of}
use Rattle.open_table.specs.Passes.{at_higher_cost, EndsWithMove}
use Rattle.open_table.specs.Tables.{IndexedState, indexed, packed, pairs_in_order}
use Rattle.open_table.specs.Tried.{ShowsRows}
use Rattle.open_table.specs.Open.{OpenState, IsOpen, in_table, order_index}
use Rattle.open_table.proofs.OpenLemmas.{open_packed, either, ended_by, on_ok, on_err, used, no_more, fewer_unmarked}
use Rattle.open_table.proofs.opened.OpenTable.pack.Goals as goal

pub invariant_of-self : goal.invariant_of-self
invariant_of-self g c =
    let old : IndexedState = indexed c.self.inside.table c.self.inside.slots.items in
    let new : IndexedState = indexed c.pack-ended.new.table c.pack-ended.new.slots.items in
    let list = c.self.inside.list.items in
    let after : IndexedState = packed c.as_slice.result.now old in
    record {
      lists = c.pack-ended.ensures.lists;
      is_open = either c.pack-ended.result (new ≡ after) (new ≡ old) (IsOpen new list c.self.inside.order)
          c.pack-ended.ensures.ok c.pack-ended.ensures.err
          (λ e. open_packed old new list c.as_slice.result.now c.self.inside.order c.as_slice.ensures.value
          c.self.invariant.is_open (ap (λ (t : IndexedState). t.marks) {y = after} e))
          (λ e. subst (λ t. IsOpen t list c.self.inside.order) (sym e) c.self.invariant.is_open);
    }

pub returns-clause-ends : goal.returns-clause-ends
returns-clause-ends g c = λ shown sees.
    let now : OpenState = c.args.self.now in
    let inside = c.self.inside in
    let numbers = c.as_slice.result.now in
    let old : IndexedState = indexed inside.table inside.slots.items in
    let new : IndexedState = indexed c.pack-ended.new.table c.pack-ended.new.slots.items in
    let table : old ≡ now.table = ap (λ (s : OpenState). s.table) c.self.view_is in
    let list : numbers ≡ now.list = c.as_slice.ensures.value ∙ ap (λ (s : OpenState). s.list) c.self.view_is in
    let with_it : IndexedState → OpenState =
    used inside.list.items inside.order inside.pointer inside.bof inside.found in
    let changed : OpenState → OpenState = λ a. in_table a (packed a.list a.table) in
    let made : with_it (packed numbers old) ≡ changed now =
    ap (λ l. with_it (packed l old)) c.as_slice.ensures.value ∙ ap changed c.self.view_is in
    let ok = on_ok c.pack-ended.result (new ≡ packed numbers old) (with_it new ≡ changed now)
    (λ e. ap with_it e ∙ made) c.pack-ended.ensures.ok in
    let err = on_err c.pack-ended.result (new ≡ old) (with_it new ≡ now) (λ e. ap with_it e ∙ c.self.view_is)
    c.pack-ended.ensures.err in
    let landing : List ℕ → Option ℕ → IndexedState → Landing =
    λ l o t. at_higher_cost (length t.rows + length (unmarked t.rows) * length l)
    (end_of shown true (pairs_in_order o t.marks (unmarked t.rows))) in
    let said = subst (λ (t : IndexedState). ShowsRows (FnReturnsAt g.F.Fn) c.args.see t.structure (unmarked t.rows)
    shown → EndsWithMove (landing numbers c.order_index-order.result t) c.args.budget c.pack-ended.result) table
    (c.pack-ended.ensures.lands shown) sees in
    let listed = subst (λ (l : List ℕ). EndsWithMove (landing l c.order_index-order.result now.table) c.args.budget
    c.pack-ended.result) list said in
    let ordered = subst (λ (o : Option ℕ). EndsWithMove (landing now.list o now.table) c.args.budget
    c.pack-ended.result) c.order_index-order.ensures.value listed in
    let led : Landing = landing now.list (order_index now.order now.list) now.table in
    ended_by c.pack-ended.result c.finish.result now (with_it new) (changed now) c.finish.new.self led c.args.budget ok
    err c.finish.ensures.same (c.finish.ensures.ends led c.args.budget ordered)

pub returns-clause-few : goal.returns-clause-few
returns-clause-few g c =
    let inside = c.self.inside in
    let old : IndexedState = indexed inside.table inside.slots.items in
    let new : IndexedState = indexed c.pack-ended.new.table c.pack-ended.new.slots.items in
    let le = no_more c.pack-ended.result old new (packed c.as_slice.result.now old) c.pack-ended.ensures.ok
    c.pack-ended.ensures.err (fewer_unmarked old.rows) in
    let was = ap (λ (s : OpenState). length s.table.rows) c.self.view_is in
    let is = ap (λ (t : IndexedState). length t.rows) c.finish.ensures.table in omega (arith, le, was, is)
