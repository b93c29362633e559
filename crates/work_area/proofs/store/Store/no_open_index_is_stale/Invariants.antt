use Rattle.std.proofs.Common.{◌≡◌, ℕ, ◌<◌, true, Some}
use Rattle.std.specs.Prelude.{All, slice_get}
use Rattle.open_table.specs.Marks.{mark_at, is_fresh}
use Rattle.open_table.specs.Open.{OpenState}
use Rattle.work_area.proofs.store.Store.no_open_index_is_stale.Given as goal

abbrev pub invariant-loop-t : goal.invariant-loop-t
invariant-loop-t g l = (t : ℕ) (o : OpenState) → t < l.t → slice_get l.self.tables t ≡ Some o
    → All (λ n. is_fresh (mark_at o.table.marks n) ≡ true) o.list
