use Rattle.std.proofs.Common.{◌≡◌, ◌+◌, ◌≤◌, length, map}
use Rattle.open_table.specs.Marks.{count_stale}
use Rattle.open_table.specs.Slots.{mark_of}
use Rattle.open_table.proofs.keyed.stale_in.Given as goal

abbrev pub invariant-loop-number : goal.invariant-loop-number
invariant-loop-number g l = record {
  value : l.stale + count_stale l.rest (map mark_of l.slots.items) ≡ count_stale l.list (map mark_of l.slots.items);
  few : l.stale + length l.rest ≤ length l.list;
}

abbrev pub decreases-loop-number : goal.decreases-loop-number
decreases-loop-number g l = length l.rest
