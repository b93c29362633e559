use Rattle.std.proofs.Common.{ℕ, ◌<◌, get_or}
use Rattle.row_keys.specs.Lists.{IsAsBefore}
use Rattle.open_table.specs.Slots.{SlotState, GoesBy, HasRoomForPair}
use Rattle.open_table.proofs.SlotLemmas.{Turned}
use Rattle.open_table.proofs.slots.reserve_all.Given as goal

abbrev pub invariant-loop-slot : goal.invariant-loop-slot
invariant-loop-slot g l = record {
  same : Turned (GoesBy (λ parts. IsAsBefore)) l.fn.slots.items l.slot-items l.slot-index;
  room : (i : ℕ) (d : SlotState) → i < l.slot-index → HasRoomForPair l.list (get_or l.slot-items i d);
}
