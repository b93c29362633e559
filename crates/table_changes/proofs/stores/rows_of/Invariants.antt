use Rattle.std.proofs.Common.{◌≡◌, length, map, take}
use Rattle.table_changes.specs.Rows.{tables_of}
use Rattle.table_changes.specs.Stores.{bytes_of_rows}
use Rattle.table_changes.proofs.stores.rows_of.Given as goal

abbrev pub invariant-loop-t : goal.invariant-loop-t
invariant-loop-t g l = (map bytes_of_rows l.rows.items ≡ take l.t (tables_of l.store)) × (length l.rows.items ≡ l.t)
