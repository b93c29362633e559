-- The rows of a store's tables as their bytes, marks included, and which of its indexes are fresh.
use Rattle.std.specs.Prelude.{ℕ, Bool, List, map}
use Rattle.std.specs.List.{range_with_len}
use Rattle.dbf_file.specs.Rows.{Row, row_text}
use Rattle.open_table.specs.Marks.{is_fresh}
use Rattle.open_table.specs.Open.{OpenState}
use Rattle.work_area.specs.Areas.{StoreState, index_table, mark_in}

abbrev pub texts_of : List Row → List (List ℕ)
texts_of rows = map row_text rows

-- those of each table
abbrev pub tables_of : StoreState → List (List (List ℕ))
tables_of s = map (λ (o : OpenState). texts_of o.table.rows) s.tables

-- whether an index isn't stale
abbrev pub is_fresh_in : StoreState → ℕ → Bool
is_fresh_in s n = is_fresh (mark_in (index_table s n) n)

-- the first so many indexes of a store, each fresh or not
abbrev pub fresh_of : StoreState → ℕ → List Bool
fresh_of s count = map (is_fresh_in s) (range_with_len 0 count)
