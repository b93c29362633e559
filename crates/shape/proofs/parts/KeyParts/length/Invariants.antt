use Rattle.std.proofs.Common.{◌≡◌, ◌+◌, length}
use Rattle.std.specs.List.{AllByRecursion}
use Rattle.dbf_file.specs.Tables.{row_widths}
use Rattle.shape.specs.Keys.{IsTextField, key_length}
use Rattle.shape.proofs.parts.KeyParts.length.Given as goal

abbrev pub invariant-loop-part : goal.invariant-loop-part
invariant-loop-part l = record {
  length : l.length + key_length l.rest (row_widths l.table.structure)
      ≡ key_length l.self (row_widths l.table.structure);
  fields : AllByRecursion (IsTextField l.table.structure) l.rest;
}

abbrev pub decreases-loop-part : goal.decreases-loop-part
decreases-loop-part l = length l.rest
