use Rattle.std.proofs.Common.{◌≡◌, ℕ, ◌<◌, ◌≤◌, length, get_or}
use Rattle.open_table.specs.Slots.{SlotState, left_if_open}
use Rattle.open_table.proofs.slots.leave_all.Given as goal

abbrev pub invariant-loop-slot : goal.invariant-loop-slot
invariant-loop-slot g l = record {
  len : length l.slot-items ≡ length l.fn.slots.items;
  done : (i : ℕ) (d : SlotState) → i < l.slot-index → get_or l.slot-items i d
      ≡ left_if_open l.list (get_or l.fn.slots.items i d);
  left : (i : ℕ) (d : SlotState) → l.slot-index ≤ i → i < length l.slot-items
      → get_or l.slot-items i d ≡ get_or l.fn.slots.items i d;
}
