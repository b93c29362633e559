use Rattle.std.proofs.Common.{◌≡◌, length, map, take}
use Rattle.work_area.specs.Making.{unused}
use Rattle.work_area.proofs.tables.unused_tables.Given as goal

abbrev pub invariant-loop-table : goal.invariant-loop-table
invariant-loop-table g l = l.made.items ≡ map unused (take (length l.yielded) l.fn.tables.items)
