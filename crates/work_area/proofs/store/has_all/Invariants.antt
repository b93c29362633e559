use Rattle.std.proofs.Common.{◌≡◌, length, is_some}
use Rattle.std.specs.List.{list_all}
use Rattle.open_table.specs.Marks.{mark_at}
use Rattle.work_area.proofs.store.has_all.Given as goal

abbrev pub invariant-loop-number : goal.invariant-loop-number
invariant-loop-number g l = list_all (λ n. is_some (mark_at l.table.table.marks n)) l.rest
    ≡ list_all (λ n. is_some (mark_at l.table.table.marks n)) l.indexes

abbrev pub decreases-loop-number : goal.decreases-loop-number
decreases-loop-number g l = length l.rest
