use Rattle.row_keys.specs.Lists.{kept_rows}
use Rattle.open_table.specs.Slots.{Prepares}
use Rattle.open_table.proofs.SlotLemmas.{Turned}
use Rattle.open_table.proofs.slots.prepare_all.Given as goal

abbrev pub invariant-loop-slot : goal.invariant-loop-slot
invariant-loop-slot g l = Turned (Prepares l.table.structure (kept_rows l.kept l.table.rows) l.list l.only_stale)
    l.fn.slots.items l.slot-items l.slot-index
