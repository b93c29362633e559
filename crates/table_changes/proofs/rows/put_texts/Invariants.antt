use Rattle.std.proofs.Common.{◌≡◌, ◌++◌, drop}
use Rattle.std.specs.List.{concat}
use Rattle.dbf_file.specs.Rows.{row_at}
use Rattle.table_changes.proofs.rows.put_texts.Given as goal

abbrev pub invariant-loop-f : goal.invariant-loop-f
invariant-loop-f l = l.out.items ++ concat (drop l.f (row_at l.fn.table.rows l.fn.r).texts)
    ≡ l.fn.out.items ++ concat (row_at l.fn.table.rows l.fn.r).texts
