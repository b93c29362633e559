use Rattle.std.proofs.Common.{◌≡◌, ℕ, Bool, ap, subst, length, arith}
use Rattle.std.specs.Fn.{FnReturnsAt}
use Rattle.std.proofs.lemmas.Int.{to_z-of_z}
use Rattle.std.specs.Int.{w128}
use Rattle.row_moves.specs.Moves.{landing_of, skipped}
use Rattle.open_table.specs.Tables.{order_pairs, pair_at}
use Rattle.open_table.specs.Tried.{ShowsRows}
use Rattle.open_table.specs.Open.{OpenState, IsMoved, landed, order_index}
use Rattle.work_area.specs.Areas.{StoreState, with_table}
use Rattle.work_area.specs.Calls.{skip_of}
use Rattle.work_area.proofs.PlaceLemmas.{IsHere, stands, moved}
use Rattle.work_area.proofs.LimitLemmas.{put_in}
use Rattle.work_area.proofs.store.Store.skip.Goals as goal

pub returns : goal.returns
returns g c =
    let now : StoreState = c.args.self.now in
    let s = c.self.inside in
    let inside : StoreState =
    record { tables = s.tables.items; areas = s.areas; selected = s.selected; limit = s.limit } in
    let t = c.place_here-t.result in
    let o : OpenState = c.index_mut.result.now in
    let here = c.place_here-t.ensures in
    let there : IsHere now t o = stands inside now t o c.self.view_is c.requires.open here.place here.table here.within
    c.index_mut.ensures.value in
    let made = ap (λ (s : StoreState). with_table s t c.make_move.new.self) c.self.view_is in
    let order = order_index o.order o.list in
    let from = pair_at order o.table o.pointer in
    let pairs = order_pairs order o.table in
    let is_skip = λ (shown : ℕ → Bool).
    subst (λ z. landing_of shown c.skip.result from pairs ≡ skipped shown z from pairs)
    (to_z-of_z w128 c.args.steps c.ranges.steps) (c.skip.ensures shown from pairs) in
    let Sees = λ (shown : ℕ → Bool). ShowsRows (FnReturnsAt g.F.Fn) c.args.see o.table.structure o.table.rows shown in
    let said = λ (shown : ℕ → Bool) (sees : Sees shown).
    subst (λ l. IsMoved (landed o) o c.make_move.new.self l c.args.budget c.make_move.result) (is_skip shown)
    (c.make_move.ensures.moves shown sees) in
    moved (FnReturnsAt g.F.Fn) c.args.see (skip_of c.args.steps) now _ t o c.make_move.new.self c.args.budget
    c.make_move.result there made said

pub invariant_of-self : goal.invariant_of-self
invariant_of-self g c =
    let count = ap (λ (s : StoreState). length s.tables) c.self.view_is in
    put_in _ _ _ _ c.place_here-t.result c.index_mut.result.now c.make_move.new.self c.self.invariant
    (omega (arith, count, c.place_here-t.ensures.within)) c.index_mut.ensures.value c.make_move.ensures.few
