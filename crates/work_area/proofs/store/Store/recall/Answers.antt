use Rattle.std.proofs.Common.{length, ap, arith, subst, sym, false}
use Rattle.work_area.specs.Areas.{StoreState}
use Rattle.work_area.proofs.LimitLemmas.{IsNoLonger, put_in, remarked_no_longer}
use Rattle.work_area.proofs.store.Store.recall.Goals as goal

pub invariant_of-self : goal.invariant_of-self
invariant_of-self g c =
    let count = ap (λ (s : StoreState). length s.tables) c.self.view_is in
    put_in _ _ _ _ c.place_here-t.result c.index_mut.result.now c.set_mark.new.self c.self.invariant
    (omega (arith, count, c.place_here-t.ensures.within)) c.index_mut.ensures.value (subst (IsNoLonger c.index_mut.result.now) (sym c.set_mark.ensures)
    (remarked_no_longer false c.index_mut.result.now))
