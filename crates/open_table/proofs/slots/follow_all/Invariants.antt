use Rattle.row_keys.specs.Lists.{HasFollowed}
use Rattle.open_table.specs.Slots.{GoesBy}
use Rattle.open_table.proofs.SlotLemmas.{Turned}
use Rattle.open_table.proofs.slots.follow_all.Given as goal

abbrev pub invariant-loop-slot : goal.invariant-loop-slot
invariant-loop-slot g l =
    Turned (GoesBy (HasFollowed l.table.structure l.table.rows)) l.fn.slots.items l.slot-items l.slot-index
