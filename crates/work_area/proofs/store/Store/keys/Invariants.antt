use Rattle.std.proofs.Common.{◌≡◌, drop, is_some}
use Rattle.std.specs.Prelude.{find}
use Rattle.open_table.specs.Marks.{mark_at}
use Rattle.work_area.proofs.store.Store.keys.Given as goal

abbrev pub invariant-loop-t : goal.invariant-loop-t
invariant-loop-t g l = find (λ o. is_some (mark_at o.table.marks l.number)) (drop l.t l.table-items)
    ≡ find (λ o. is_some (mark_at o.table.marks l.number)) l.table-items
