use Rattle.std.proofs.Common.{◌≡◌, ◌++◌, [], drop}
use Rattle.csv.specs.Records.{fields_of, partial_of}
use Rattle.dbf_file.specs.Rows.{row_at}
use Rattle.table_csv.specs.Cells.{csv_cells}
use Rattle.table_csv.proofs.cells.put_cells.Given as goal

abbrev pub invariant-loop-f : goal.invariant-loop-f
invariant-loop-f l =
    (fields_of l.line ++ csv_cells (drop l.f l.fn.table.structure.fields)
    (drop l.f (row_at l.fn.table.rows l.fn.r).texts)
    ≡ fields_of l.fn.line ++ csv_cells l.fn.table.structure.fields (row_at l.fn.table.rows l.fn.r).texts)
    × (partial_of l.line ≡ [])
