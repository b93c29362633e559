use Rattle.std.proofs.Common.{◌≡◌, ◌+◌, ◌++◌, length}
use Rattle.std.specs.List.{AllByRecursion}
use Rattle.dbf_file.specs.Rows.{row_at}
use Rattle.dbf_file.specs.Tables.{row_widths}
use Rattle.shape.specs.Keys.{IsTextField, key_of, key_length}
use Rattle.shape.proofs.parts.KeyParts.row_key.Given as goal

abbrev pub invariant-loop-part : goal.invariant-loop-part
invariant-loop-part l = record {
  key : l.key.items ++ key_of l.rest (row_at l.table.rows l.r).texts ≡ key_of l.self (row_at l.table.rows l.r).texts;
  length : length l.key.items + key_length l.rest (row_widths l.table.structure)
      ≡ key_length l.self (row_widths l.table.structure);
  fields : AllByRecursion (IsTextField l.table.structure) l.rest;
}

abbrev pub decreases-loop-part : goal.decreases-loop-part
decreases-loop-part l = length l.rest
