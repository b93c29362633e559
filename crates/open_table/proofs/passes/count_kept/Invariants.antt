use Rattle.std.proofs.Common.{◌≡◌, ◌≤◌, length, take}
use Rattle.row_keys.specs.Lists.{kept_rows}
use Rattle.open_table.proofs.passes.count_kept.Given as goal

abbrev pub invariant-loop-r : goal.invariant-loop-r
invariant-loop-r l = record {
  number : l.number ≡ length (kept_rows l.kept (take l.r l.table.rows));
  few : l.number ≤ l.r;
}
