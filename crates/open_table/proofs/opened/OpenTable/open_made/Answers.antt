use Rattle.std.proofs.Common.{◌≡◌, ℕ, true, Option, is_some, length, sym, ap, ◌∙◌, subst, arith}
use Rattle.std.specs.List.{All}
use Rattle.std.specs.Fn.{FnReturnsAt}
use Rattle.std.specs.Prelude.{slice_get}
use Rattle.row_moves.specs.Moves.{Landing, Lands, end_of}
use Rattle.open_table.specs.Marks.{mark_at}
use Rattle.open_table.specs.Passes.{at_higher_cost, IsRefusal}
use Rattle.open_table.specs.Tables.{IndexedState, indexed, remade, order_pairs}
use Rattle.open_table.specs.Tried.{ShowsRows}
use Rattle.open_table.specs.Open.{OpenState, IsOpen, opened, landed}
use Rattle.open_table.proofs.OpenLemmas.{open_made, used}
use Rattle.open_table.proofs.opened.OpenTable.open_made.Goals as goal

pub invariant_of-self : goal.invariant_of-self
invariant_of-self g c =
    let old : IndexedState = indexed c.self.inside.table c.self.inside.slots.items in
    let new : IndexedState = indexed c.self.inside.table c.make_and_top.new.slots.items in
    let list = c.args.list.now in
    let order = c.order_of-self-inside.result in
    let table : old ≡ c.args.self.now.table = ap (λ (s : OpenState). s.table) c.self.view_is in
    let declared = subst (λ (t : IndexedState). All (λ n. is_some (mark_at t.marks n) ≡ true) list) (sym table)
    c.requires.declared in
    let made = open_made old new list order c.requires.few c.order_of-self-inside.ensures.within declared
    (ap (λ (t : IndexedState). t.marks) {y = remade list old} c.in-Ok.ensures.ok) in
    record {
      lists = c.make_and_top.ensures.lists;
      is_open = subst (λ xs. IsOpen new xs order) (sym c.held-self-inside.ensures) made;
    }

pub returns-in-Ok-clause-ends : goal.returns-in-Ok-clause-ends
returns-in-Ok-clause-ends g c = λ shown sees.
    let now : OpenState = c.args.self.now in
    let list = c.args.list.now in
    let old : IndexedState = indexed c.self.inside.table c.self.inside.slots.items in
    let new : IndexedState = indexed c.self.inside.table c.make_and_top.new.slots.items in
    let table : old ≡ now.table = ap (λ (s : OpenState). s.table) c.self.view_is in
    let landing : Option ℕ → IndexedState → Landing =
    λ o t. at_higher_cost c.args.base (end_of shown true (order_pairs o t)) in
    let said = subst (λ (t : IndexedState). ShowsRows (FnReturnsAt g.F.Fn) c.args.see t.structure t.rows shown
    → Lands (landing c.first_index-order.result t) c.args.budget c.in-Ok.landed) table (c.in-Ok.ensures.lands shown) sees in
    let lands = subst (λ (o : Option ℕ). Lands (landing o now.table) c.args.budget c.in-Ok.landed)
    c.first_index-order.ensures said in
    let made : new ≡ remade list now.table = c.in-Ok.ensures.ok ∙ ap (remade list) table in
    let there : c.land.new.self ≡ landed (opened list now) (landing (slice_get list 0) now.table) = c.land.ensures.there
    ∙ (λ i. record {
      table = made i;
      list = c.held-self-inside.ensures i;
      order = c.order_of-self-inside.ensures.value i;
      pointer = lands.row i;
      bof = lands.bof i;
      found = lands.found i;
    }) in
    (c.land.ensures.cost ∙ lands.cost, omega (arith, c.land.ensures.cost, lands.within), there)

pub returns-clause-ends : goal.returns-clause-ends
returns-clause-ends g c = λ shown sees.
    let now : OpenState = c.args.self.now in
    let inside = c.self.inside in
    let table : indexed inside.table inside.slots.items ≡ now.table = ap (λ (s : OpenState). s.table) c.self.view_is in
    let with_it : IndexedState → OpenState =
    used inside.list.items inside.order inside.pointer inside.bof inside.found in
    let said = subst (λ (t : IndexedState). ShowsRows (FnReturnsAt g.F.Fn) c.args.see t.structure t.rows shown
    → IsRefusal (at_higher_cost c.args.base (end_of shown true (order_pairs c.first_index-order.result t))) c.args.budget
    c.in-Err.refused) table (c.in-Err.ensures.lands shown) sees in
    let refused = subst (λ (o : Option ℕ). IsRefusal (at_higher_cost c.args.base (end_of shown true
    (order_pairs o now.table))) c.args.budget c.in-Err.refused)
    c.first_index-order.ensures said in
    (refused, ap (λ xs. with_it (indexed inside.table xs)) c.in-Err.ensures.err ∙ c.self.view_is)

pub returns-in-Ok-clause-few : goal.returns-in-Ok-clause-few
returns-in-Ok-clause-few g c =
    let was = ap (λ (s : OpenState). length s.table.rows) c.self.view_is in
    let is = ap (λ (s : OpenState). length s.table.rows) c.land.ensures.there in omega (arith, was, is)

pub returns-clause-few : goal.returns-clause-few
returns-clause-few g c =
    let was = ap (λ (s : OpenState). length s.table.rows) c.self.view_is in omega (arith, was)
