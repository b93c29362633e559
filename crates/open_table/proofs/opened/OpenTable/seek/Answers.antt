use Rattle.std.proofs.Common.{◌≡◌, ℕ, Option, Some, ap, ◌∙◌, subst, length, arith}
use Rattle.std.specs.Fn.{FnReturnsAt}
use Rattle.row_moves.specs.Moves.{IsMove, sought}
use Rattle.open_table.specs.Tables.{IndexedState, indexed, order_pairs}
use Rattle.open_table.specs.Tried.{ShowsRows}
use Rattle.open_table.specs.Open.{OpenState, IsMoved, landed, order_index}
use Rattle.open_table.proofs.OpenLemmas.{used}
use Rattle.open_table.proofs.opened.OpenTable.seek.Goals as goal

pub returns-clause-moves : goal.returns-clause-moves
returns-clause-moves g c = λ shown sees.
    let now : OpenState = c.args.self.now in
    let inside = c.self.inside in
    let old : IndexedState = indexed inside.table inside.slots.items in
    let table : old ≡ now.table = ap (λ (s : OpenState). s.table) c.self.view_is in
    let with_it : IndexedState → OpenState =
    used inside.list.items inside.order inside.pointer inside.bof inside.found in
    let same : with_it (indexed inside.table c.seek-moved.new.slots.items) ≡ now =
    ap (λ xs. with_it (indexed inside.table xs)) c.seek-moved.ensures.same ∙ c.self.view_is in
    let said = subst (λ (t : IndexedState). ShowsRows (FnReturnsAt g.F.Fn) c.args.see t.structure t.rows shown
    → IsMove (sought shown c.args.exact c.args.text.now (order_pairs (Some c.key_index-number.result) t))
    c.args.budget c.seek-moved.result) table (c.seek-moved.ensures.lands shown) in
    let moved = subst (λ (o : Option ℕ). IsMove (sought shown c.args.exact c.args.text.now (order_pairs o now.table))
    c.args.budget c.seek-moved.result) c.key_index-number.ensures.value (said sees) in
    subst (λ (v : OpenState). IsMoved (landed v) v c.settle.new.self
    (sought shown c.args.exact c.args.text.now (order_pairs (order_index now.order now.list) now.table))
    c.args.budget c.settle.result) same
    (c.settle.ensures.moves _ c.args.budget moved)

pub returns-clause-few : goal.returns-clause-few
returns-clause-few g c =
    let was = ap (λ (s : OpenState). length s.table.rows) c.self.view_is in
    let is = ap (λ (t : IndexedState). length t.rows) c.settle.ensures.table in omega (arith, was, is)
