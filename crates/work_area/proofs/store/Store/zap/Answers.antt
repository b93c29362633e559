use Rattle.std.proofs.Common.{true, sym, ap, ◌∙◌, length, arith}
use Rattle.open_table.specs.Open.{OpenState}
use Rattle.work_area.specs.Areas.{StoreState, with_table}
use Rattle.work_area.specs.Calls.{zapped_in, zap_landing}
use Rattle.work_area.proofs.PlaceLemmas.{IsHere, stands, from_here, put_here, put_back, ended_by}
use Rattle.work_area.proofs.LimitLemmas.{put_in}
use Rattle.work_area.proofs.store.Store.zap.Goals as goal

pub returns : goal.returns
returns g c =
    let now : StoreState = c.args.self.now in
    let inside : StoreState = record {
      tables = c.self.inside.tables.items;
      areas = c.self.inside.areas;
      selected =
          c.self.inside.selected;
      limit = c.self.inside.limit;
    } in
    let t = c.place_here-t.result in
    let o : OpenState = c.index_mut.result.now in
    let there : IsHere now t o = stands inside now t o c.self.view_is c.requires.open c.place_here-t.ensures.place
    c.place_here-t.ensures.table c.place_here-t.ensures.within c.index_mut.ensures.value in
    let made = ap (λ (s : StoreState). with_table s t c.zap.new.self) c.self.view_is in
    from_here now t o _ there
    (ended_by now _ o (zapped_in o) c.zap.new.self zap_landing c.args.budget c.zap.result (put_back now t o there)
    (made ∙ sym (put_here now t o c.zap.new.self there)) (c.zap.ensures.ends (λ n. true)))

pub invariant_of-self : goal.invariant_of-self
invariant_of-self g c =
    let count = ap (λ (s : StoreState). length s.tables) c.self.view_is in
    put_in _ _ _ _ c.place_here-t.result c.index_mut.result.now c.zap.new.self c.self.invariant
    (omega (arith, count, c.place_here-t.ensures.within)) c.index_mut.ensures.value c.zap.ensures.few
