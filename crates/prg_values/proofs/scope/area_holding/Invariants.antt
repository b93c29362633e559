use Rattle.std.proofs.Common.{◌≡◌, ◌+◌, length}
use Rattle.prg_values.specs.Readings.{holder_from}
use Rattle.prg_values.proofs.scope.area_holding.Given as goal

abbrev pub invariant-loop-area : goal.invariant-loop-area
invariant-loop-area l = record {
  same : holder_from (l.before + 1) l.rest l.table ≡ holder_from 1 l.areas l.table;
  count : l.before + length l.rest ≡ length l.areas;
}

abbrev pub decreases-loop-area : goal.decreases-loop-area
decreases-loop-area l = length l.rest
