use Rattle.std.proofs.Common.{◌≡◌, ◌+◌, length}
use Rattle.prg_values.specs.Readings.{table_from}
use Rattle.prg_values.proofs.scope.table_named.Given as goal

abbrev pub invariant-loop-table : goal.invariant-loop-table
invariant-loop-table l = record {
  same : table_from l.number l.rest l.name ≡ table_from 0 l.shape.tables l.name;
  count : l.number + length l.rest ≡ length l.shape.tables;
}

abbrev pub decreases-loop-table : goal.decreases-loop-table
decreases-loop-table l = length l.rest
