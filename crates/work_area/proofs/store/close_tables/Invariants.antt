use Rattle.std.proofs.Common.{◌≡◌}
use Rattle.work_area.proofs.AreaLemmas.{closed_front}
use Rattle.work_area.proofs.store.close_tables.Given as goal

abbrev pub invariant-loop-t : goal.invariant-loop-t
invariant-loop-t g l = l.tables.items ≡ closed_front l.t l.fn.tables.items
