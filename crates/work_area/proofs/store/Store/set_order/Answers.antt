use Rattle.std.proofs.Common.{length, ap, arith}
use Rattle.work_area.specs.Areas.{StoreState}
use Rattle.work_area.proofs.LimitLemmas.{put_in}
use Rattle.open_table.specs.Open.{OpenState}
use Rattle.work_area.proofs.store.Store.set_order.Goals as goal

pub invariant_of-self : goal.invariant_of-self
invariant_of-self g c =
    let count = ap (λ (s : StoreState). length s.tables) c.self.view_is in
    let same = ap (λ (o : OpenState). length o.table.rows) c.set_order.ensures in
    put_in _ _ _ _ c.place_here-t.result c.index_mut.result.now c.set_order.new.self c.self.invariant
    (omega (arith, count, c.place_here-t.ensures.within)) c.index_mut.ensures.value (omega (arith, same))
