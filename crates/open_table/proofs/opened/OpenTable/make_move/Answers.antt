use Rattle.std.proofs.Common.{◌≡◌, ℕ, Option, ap, ◌∙◌, subst, length, arith}
use Rattle.std.specs.Fn.{FnReturnsAt}
use Rattle.row_moves.specs.Moves.{IsMove, Landing, landing_of}
use Rattle.open_table.specs.Tables.{IndexedState, indexed, order_pairs, pair_at}
use Rattle.open_table.specs.Tried.{ShowsRows}
use Rattle.open_table.specs.Open.{OpenState, IsMoved, landed, order_index}
use Rattle.open_table.proofs.OpenLemmas.{used}
use Rattle.open_table.proofs.opened.OpenTable.make_move.Goals as goal

pub returns-clause-moves : goal.returns-clause-moves
returns-clause-moves g c = λ shown sees.
    let now : OpenState = c.args.self.now in
    let inside = c.self.inside in
    let old : IndexedState = indexed inside.table inside.slots.items in
    let answer = c.make_move-moved.result in
    let led : Option ℕ → IndexedState → Option ℕ → Landing =
    λ o t p. landing_of shown c.args.asked (pair_at o t p) (order_pairs o t) in
    let table : old ≡ now.table = ap (λ (s : OpenState). s.table) c.self.view_is in
    let with_it : IndexedState → OpenState =
    used inside.list.items inside.order inside.pointer inside.bof inside.found in
    let same : with_it (indexed inside.table c.make_move-moved.new.slots.items) ≡ now =
    ap (λ xs. with_it (indexed inside.table xs)) c.make_move-moved.ensures.same ∙ c.self.view_is in
    let said = subst (λ (t : IndexedState). ShowsRows (FnReturnsAt g.F.Fn) c.args.see t.structure t.rows shown
    → IsMove (led c.order_index-order.result t now.pointer) c.args.budget answer) table
    (λ seen. subst (λ p. IsMove (led c.order_index-order.result old p) c.args.budget answer)
    (ap (λ (s : OpenState). s.pointer) c.self.view_is) (c.make_move-moved.ensures.lands shown seen)) in
    let moved = subst (λ (o : Option ℕ). IsMove (led o now.table now.pointer) c.args.budget answer)
    c.order_index-order.ensures.value (said sees) in
    subst (λ (v : OpenState). IsMoved (landed v) v c.settle.new.self
    (led (order_index now.order now.list) now.table now.pointer) c.args.budget c.settle.result) same
    (c.settle.ensures.moves _ c.args.budget moved)

pub returns-clause-few : goal.returns-clause-few
returns-clause-few g c =
    let was = ap (λ (s : OpenState). length s.table.rows) c.self.view_is in
    let is = ap (λ (t : IndexedState). length t.rows) c.settle.ensures.table in omega (arith, was, is)
