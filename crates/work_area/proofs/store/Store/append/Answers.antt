use Rattle.std.proofs.Common.{length, ap, arith}
use Rattle.work_area.specs.Areas.{StoreState}
use Rattle.work_area.proofs.LimitLemmas.{grown_in}
use Rattle.work_area.proofs.store.Store.append.Goals as goal

pub invariant_of-self : goal.invariant_of-self
invariant_of-self g c =
    let count = ap (λ (s : StoreState). length s.tables) c.self.view_is in
    grown_in _ _ _ _ c.place_here-t.result c.append.result c.index_mut.result.now c.append.new.self c.self.invariant
    (omega (arith, count, c.place_here-t.ensures.within)) c.index_mut.ensures.value c.append.ensures.ok
    c.append.ensures.err c.append.ensures.full
