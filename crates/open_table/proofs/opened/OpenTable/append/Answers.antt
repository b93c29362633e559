use Rattle.std.proofs.Common.{ap}
use Rattle.open_table.specs.Tables.{IndexedState, appended, indexed}
use Rattle.open_table.proofs.OpenLemmas.{open_left}
use Rattle.open_table.proofs.opened.OpenTable.append.Goals as goal

pub invariant_of-self : goal.invariant_of-self
invariant_of-self g c =
    let old : IndexedState = indexed c.self.inside.table c.self.inside.slots.items in
    let new : IndexedState = indexed c.append.new.table c.append.new.slots.items in
    record {
      lists = c.append.ensures.lists;
      is_open = open_left old new c.self.inside.list.items c.as_slice.result.now c.self.inside.order
          c.as_slice.ensures.value c.self.invariant.is_open
          (ap (λ (t : IndexedState). t.marks) {y = appended c.as_slice.result.now old} c.in-Ok.ensures.ok);
    }
