use Rattle.std.proofs.Common.{length, ap, arith}
use Rattle.open_table.specs.Tables.{IndexedState, indexed, emptied}
use Rattle.open_table.specs.Open.{OpenState}
use Rattle.open_table.proofs.OpenLemmas.{open_packed}
use Rattle.open_table.proofs.opened.OpenTable.zap.Goals as goal

pub invariant_of-self : goal.invariant_of-self
invariant_of-self g c =
    let old : IndexedState = indexed c.self.inside.table c.self.inside.slots.items in
    let new : IndexedState = indexed c.clear.new.table c.clear.new.slots.items in
    record {
      lists = c.clear.ensures.lists;
      is_open = open_packed old new c.self.inside.list.items c.as_slice.result.now c.self.inside.order
          c.as_slice.ensures.value c.self.invariant.is_open
          (ap (λ (t : IndexedState). t.marks) {y = emptied c.as_slice.result.now old} c.in-Ok.ensures.ok);
    }

pub returns-in-Ok-clause-few : goal.returns-in-Ok-clause-few
returns-in-Ok-clause-few g c =
    let made = ap (λ (t : IndexedState). length t.rows) c.in-Ok.ensures.ok in
    let is = ap (λ (s : OpenState). length s.table.rows) c.land.ensures.there in omega (arith, made, is)
