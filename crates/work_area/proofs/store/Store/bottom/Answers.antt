use Rattle.std.proofs.Common.{ap, length, arith}
use Rattle.std.specs.Fn.{FnReturnsAt}
use Rattle.open_table.specs.Open.{OpenState}
use Rattle.work_area.specs.Areas.{StoreState, with_table}
use Rattle.work_area.specs.Calls.{bottom_of}
use Rattle.work_area.proofs.PlaceLemmas.{IsHere, stands, moved}
use Rattle.work_area.proofs.LimitLemmas.{put_in}
use Rattle.work_area.proofs.store.Store.bottom.Goals as goal

pub returns : goal.returns
returns g c =
    let now : StoreState = c.args.self.now in
    let s = c.self.inside in
    let inside : StoreState =
    record { tables = s.tables.items; areas = s.areas; selected = s.selected; limit = s.limit } in
    let t = c.place_here-t.result in
    let o : OpenState = c.index_mut.result.now in
    let here = c.place_here-t.ensures in
    let there : IsHere now t o = stands inside now t o c.self.view_is c.requires.open here.place here.table here.within
    c.index_mut.ensures.value in
    let made = ap (λ (s : StoreState). with_table s t c.make_move.new.self) c.self.view_is in
    moved (FnReturnsAt g.F.Fn) c.args.see bottom_of now _ t o c.make_move.new.self c.args.budget c.make_move.result
    there
    made c.make_move.ensures.moves

pub invariant_of-self : goal.invariant_of-self
invariant_of-self g c =
    let count = ap (λ (s : StoreState). length s.tables) c.self.view_is in
    put_in _ _ _ _ c.place_here-t.result c.index_mut.result.now c.make_move.new.self c.self.invariant
    (omega (arith, count, c.place_here-t.ensures.within)) c.index_mut.ensures.value c.make_move.ensures.few
