use Rattle.std.proofs.Common.{◌≡◌, ◌≤◌, take}
use Rattle.ndx_tree.proofs.build.fill_row.Given as goal

abbrev pub invariant-loop-entry : goal.invariant-loop-entry
invariant-loop-entry l =
    record { items : l.row.items ≡ take l.entry-index l.entries; room : l.fn.row.room ≤ l.row.room }
