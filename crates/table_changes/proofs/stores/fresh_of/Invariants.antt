use Rattle.std.proofs.Common.{◌≡◌}
use Rattle.table_changes.specs.Rows.{fresh_of}
use Rattle.table_changes.proofs.stores.fresh_of.Given as goal

abbrev pub invariant-loop-n : goal.invariant-loop-n
invariant-loop-n g l = l.fresh.items ≡ fresh_of l.store l.n
