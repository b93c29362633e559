use Rattle.std.proofs.Common.{◌≡◌, ◌≤◌, length, take}
use Rattle.row_keys.specs.Lists.{kept_rows, index_list}
use Rattle.open_table.specs.Passes.{count_met}
use Rattle.open_table.proofs.passes.met_before.Given as goal

abbrev pub invariant-loop-r : goal.invariant-loop-r
invariant-loop-r l = record {
  number : l.number ≡ length (kept_rows l.kept (take l.r l.table.rows));
  few : l.number ≤ l.r;
  met : l.met ≡ count_met l.best (index_list l.key (kept_rows l.kept (take l.r l.table.rows)));
  small : l.met ≤ l.r;
}
