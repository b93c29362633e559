use Rattle.std.proofs.Common.{◌≡◌, ◌+◌, ◌++◌, length, set}
use Rattle.std.specs.List.{AllByRecursion}
use Rattle.dbf_file.specs.Rows.{row_at}
use Rattle.dbf_file.specs.Tables.{row_widths}
use Rattle.shape.specs.Keys.{IsTextField, key_of, key_length}
use Rattle.row_keys.proofs.key_change.key_with.Given as goal

abbrev pub invariant-loop-part : goal.invariant-loop-part
invariant-loop-part l = record {
  key : l.made.items ++ key_of l.rest (set (row_at l.table.rows l.r).texts l.f l.text)
      ≡ key_of l.key (set (row_at l.table.rows l.r).texts l.f l.text);
  length : length l.made.items + key_length l.rest (row_widths l.table.structure)
      ≡ key_length l.key (row_widths l.table.structure);
  fields : AllByRecursion (IsTextField l.table.structure) l.rest;
}

abbrev pub decreases-loop-part : goal.decreases-loop-part
decreases-loop-part l = length l.rest
