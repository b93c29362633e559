use Rattle.std.proofs.Common.{◌≡◌, ◌+◌, ◌++◌, drop}
use Rattle.file_commands.specs.Lines.{row_lines}
use Rattle.file_commands.proofs.table_listing.put_rows.Given as goal

abbrev pub invariant-loop-r : goal.invariant-loop-r
invariant-loop-r l =
    l.out.items ++ row_lines l.fn.table.structure.fields (l.r + 1) (drop l.r l.fn.table.rows)
    ≡ l.fn.out.items ++ row_lines l.fn.table.structure.fields 1 l.fn.table.rows
