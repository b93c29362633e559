use Rattle.std.proofs.Common.{ap, length, arith}
use Rattle.std.specs.Fn.{FnReturnsAt}
use Rattle.open_table.specs.Open.{OpenState}
use Rattle.work_area.specs.Areas.{StoreState, with_table}
use Rattle.work_area.specs.Calls.{packed_rows, packed_in, pack_of}
use Rattle.work_area.proofs.PlaceLemmas.{IsHere, stands, ended}
use Rattle.work_area.proofs.LimitLemmas.{put_in}
use Rattle.work_area.proofs.store.Store.pack.Goals as goal

pub returns : goal.returns
returns g c =
    let now : StoreState = c.args.self.now in
    let inside : StoreState = record {
      tables = c.self.inside.tables.items;
      areas = c.self.inside.areas;
      selected =
          c.self.inside.selected;
      limit = c.self.inside.limit;
    } in
    let t = c.place_here-t.result in
    let o : OpenState = c.index_mut.result.now in
    let there : IsHere now t o = stands inside now t o c.self.view_is c.requires.open c.place_here-t.ensures.place
    c.place_here-t.ensures.table c.place_here-t.ensures.within c.index_mut.ensures.value in
    let made = ap (λ (s : StoreState). with_table s t c.pack.new.self) c.self.view_is in
    ended (FnReturnsAt g.F.Fn) c.args.see packed_rows packed_in pack_of now _ t o c.pack.new.self c.args.budget
    c.pack.result there made c.pack.ensures.ends

pub invariant_of-self : goal.invariant_of-self
invariant_of-self g c =
    let count = ap (λ (s : StoreState). length s.tables) c.self.view_is in
    put_in _ _ _ _ c.place_here-t.result c.index_mut.result.now c.pack.new.self c.self.invariant
    (omega (arith, count, c.place_here-t.ensures.within)) c.index_mut.ensures.value c.pack.ensures.few
