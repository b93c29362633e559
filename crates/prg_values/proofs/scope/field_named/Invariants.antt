use Rattle.std.proofs.Common.{◌≡◌, ◌+◌, length}
use Rattle.prg_values.specs.Readings.{field_named_from}
use Rattle.prg_values.proofs.scope.field_named.Given as goal

abbrev pub invariant-loop-field : goal.invariant-loop-field
invariant-loop-field l = record {
  same : field_named_from l.number l.rest l.name ≡ field_named_from 0 l.fields l.name;
  count : l.number + length l.rest ≡ length l.fields;
}

abbrev pub decreases-loop-field : goal.decreases-loop-field
decreases-loop-field l = length l.rest
