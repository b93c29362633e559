use Rattle.std.proofs.Common.{◌≡◌, ◌≤◌, length, take}
use Rattle.dbf_file.specs.Tables.{row_widths}
use Rattle.key_lists.specs.KeyForm.{IsPairOf}
use Rattle.key_lists.specs.Order.{Each}
use Rattle.shape.specs.Keys.{key_length}
use Rattle.row_keys.specs.Lists.{row_pairs, kept_rows}
use Rattle.row_keys.proofs.building.pass.Given as goal

-- the pairs of the rows so far
abbrev pub invariant-loop-r : goal.invariant-loop-r
invariant-loop-r l = record {
  pairs : l.entries.items ≡ row_pairs l.key 1 (kept_rows l.kept (take l.r l.table.rows));
  keys : Each (IsPairOf (key_length l.key (row_widths l.table.structure))) l.entries.items;
  few : length l.entries.items ≤ l.r;
}
