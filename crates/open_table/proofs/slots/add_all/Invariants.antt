use Rattle.row_keys.specs.Lists.{HasAdded}
use Rattle.open_table.specs.Slots.{GoesBy}
use Rattle.open_table.proofs.SlotLemmas.{Turned}
use Rattle.open_table.proofs.slots.add_all.Given as goal

abbrev pub invariant-loop-slot : goal.invariant-loop-slot
invariant-loop-slot g l = Turned (GoesBy (HasAdded l.table.rows l.r)) l.fn.slots.items l.slot-items l.slot-index
