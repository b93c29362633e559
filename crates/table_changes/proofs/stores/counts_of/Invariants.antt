use Rattle.std.proofs.Common.{◌≡◌, length, map}
use Rattle.table_changes.specs.Rows.{tables_of}
use Rattle.table_changes.specs.Stores.{EachCounted, bytes_of_rows}
use Rattle.table_changes.proofs.stores.counts_of.Given as goal

abbrev pub invariant-loop-before : goal.invariant-loop-before
invariant-loop-before g l =
    (length l.counts.items ≡ length l.yielded)
    × EachCounted (map bytes_of_rows l.fn.rows.items) (tables_of l.store) l.counts.items
