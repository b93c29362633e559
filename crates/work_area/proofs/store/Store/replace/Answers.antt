use Rattle.std.proofs.Common.{length, ap, arith}
use Rattle.work_area.specs.Areas.{StoreState}
use Rattle.work_area.proofs.LimitLemmas.{made_no_longer, put_in, replaced_no_longer}
use Rattle.open_table.specs.Open.{replaced_here}
use Rattle.work_area.proofs.store.Store.replace.Goals as goal

pub invariant_of-self : goal.invariant_of-self
invariant_of-self g c =
    let count = ap (λ (s : StoreState). length s.tables) c.self.view_is in
    put_in _ _ _ _ c.place_here-t.result c.index_mut.result.now c.replace.new.self c.self.invariant
    (omega (arith, count, c.place_here-t.ensures.within)) c.index_mut.ensures.value (made_no_longer c.replace.result c.index_mut.result.now c.replace.new.self
    (replaced_here c.args.f c.args.from.now c.index_mut.result.now) c.replace.ensures.ok c.replace.ensures.err
    (replaced_no_longer c.args.f c.args.from.now c.index_mut.result.now))
