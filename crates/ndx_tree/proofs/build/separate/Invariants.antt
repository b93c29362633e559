use Rattle.std.proofs.Common.{◌≤◌, take}
use Rattle.ndx_tree.specs.Pages.{IsCut}
use Rattle.ndx_tree.proofs.build.separate.Given as goal

abbrev pub invariant-loop-at : goal.invariant-loop-at
invariant-loop-at l = record { cut : IsCut l.row.items (take l.at l.children); room : l.fn.row.room ≤ l.row.room }
