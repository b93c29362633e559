use Rattle.std.proofs.Common.{◌≡◌, ◌++◌, drop}
use Rattle.dbf_file.specs.Rows.{row_at}
use Rattle.file_commands.specs.Lines.{cells}
use Rattle.file_commands.proofs.table_listing.put_cells.Given as goal

abbrev pub invariant-loop-f : goal.invariant-loop-f
invariant-loop-f l =
    l.out.items ++ cells (drop l.f l.fn.table.structure.fields) (drop l.f (row_at l.fn.table.rows l.fn.r).texts)
    ≡ l.fn.out.items ++ cells l.fn.table.structure.fields (row_at l.fn.table.rows l.fn.r).texts
