use Rattle.std.proofs.Common.{◌≡◌, drop, map}
use Rattle.open_table.specs.Marks.{mark_at}
use Rattle.open_table.specs.Slots.{mark_of}
use Rattle.open_table.proofs.keyed.has_fresh.Given as goal

abbrev pub invariant-loop-i : goal.invariant-loop-i
invariant-loop-i g l = mark_at (map mark_of (drop l.i l.slots.items)) l.number
    ≡ mark_at (map mark_of l.slots.items) l.number
