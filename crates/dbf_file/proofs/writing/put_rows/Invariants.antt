use Rattle.std.proofs.Common.{◌≡◌, ◌++◌, ◌-◌, ◌*◌, ◌≤◌, ℕ, List, length}
use Rattle.dbf_file.specs.Fields.{size_of}
use Rattle.dbf_file.specs.Rows.{rows_in, rows_text}
use Rattle.dbf_file.proofs.writing.put_rows.Given as goal

-- what is written and what is to come
abbrev pub invariant-loop : goal.invariant-loop
invariant-loop l =
    ((l.count - l.counter) * l.size ≤ length l.rest)
    × ((ws : List ℕ) → size_of ws ≡ l.size → l.out.items ++ rows_text (rows_in ws (l.count - l.counter) l.rest)
    ≡ l.fn.out.items ++ rows_text (rows_in ws l.count l.records))
