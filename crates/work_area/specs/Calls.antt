-- What the moves and changes of the selected area's table do.
use Rattle.std.specs.Prelude.{ℕ, ◌+◌, ◌*◌, Bool, true, false, Option, Some, None, List, length}
use Rattle.std.specs.Prelude.{slice_get, Result, IfSome, ℤ}
use Rattle.dbf_file.specs.Rows.{Row, unmarked}
use Rattle.row_moves.specs.declared.landed.Spent.{Spent}
use Rattle.row_moves.specs.Moves.{Landing, end_of, skipped, sought}
use Rattle.open_table.specs.declared.refused.Refused.{Refused}
use Rattle.open_table.specs.Marks.{count_stale}
use Rattle.open_table.specs.Passes.{at_higher_cost}
use Rattle.open_table.specs.Tables.{order_pairs, pairs_in_order, pair_at, packed, emptied, remade}
use Rattle.open_table.specs.Tried.{TriedRow, ShowsRows}
use Rattle.open_table.specs.Open.{OpenState, IsMoved, IsEnded, landed, order_index, in_table as with_rows}
use Rattle.work_area.specs.declared.uses.Use.{Use}
use Rattle.work_area.specs.Areas.{StoreState, selected_use, here, with_here, with_use, with_table, closed_here}

-- ---- where moves lead, for a test of what is shown

abbrev pub top_of : OpenState → (ℕ → Bool) → Landing
top_of o shown = end_of shown true (order_pairs (order_index o.order o.list) o.table)

abbrev pub bottom_of : OpenState → (ℕ → Bool) → Landing
bottom_of o shown = end_of shown false (order_pairs (order_index o.order o.list) o.table)

abbrev pub skip_of : ℤ → OpenState → (ℕ → Bool) → Landing
skip_of steps o shown = skipped shown steps (pair_at (order_index o.order o.list) o.table o.pointer)
    (order_pairs (order_index o.order o.list) o.table)

abbrev pub seek_of : Bool → List ℕ → OpenState → (ℕ → Bool) → Landing
seek_of exact text o shown = sought shown exact text (order_pairs (order_index o.order o.list) o.table)

-- a table that a move led there, put into the store
abbrev pub put_landed : (OpenState → StoreState → StoreState) → OpenState → StoreState → Landing → StoreState
put_landed put o old landing = put (landed o landing) old

-- the selected area's table moves so, for whatever the test of rows shows
abbrev pub MovesHere : {F : Type 0} → (F → TriedRow → Bool → Type 0) → F → (OpenState → (ℕ → Bool) → Landing)
    → StoreState → StoreState → ℕ → Result ℕ Spent → Type 0
MovesHere answers see landing old new budget result =
    IfSome (here old) (λ o. (shown : ℕ → Bool) → ShowsRows answers see o.table.structure o.table.rows shown
    → IsMoved (put_landed with_here o old) old new (landing o shown) budget result)

-- ---- changes that end with TOP

-- PACK, ZAP and REINDEX: the rows that TOP is judged on, and where it leads at which cost
abbrev pub packed_rows : OpenState → List Row
packed_rows o = unmarked o.table.rows

abbrev pub all_rows : OpenState → List Row
all_rows o = o.table.rows

abbrev pub packed_in : OpenState → OpenState
packed_in o = with_rows o (packed o.list o.table)

abbrev pub pack_of : OpenState → (ℕ → Bool) → Landing
pack_of o shown = at_higher_cost (length o.table.rows + length (unmarked o.table.rows) * length o.list)
    (end_of shown true (pairs_in_order (order_index o.order o.list) o.table.marks (unmarked o.table.rows)))

abbrev pub zapped_in : OpenState → OpenState
zapped_in o = with_rows o (emptied o.list o.table)

-- TOP where there is no row
abbrev pub zap_landing : Landing
zap_landing = record { at = None; met = 0; bof = true; found = false }

abbrev pub reindexed_in : OpenState → OpenState
reindexed_in o = with_rows o (remade o.list o.table)

abbrev pub reindex_of : OpenState → (ℕ → Bool) → Landing
reindex_of o shown = at_higher_cost (length o.table.rows * length o.list) (top_of o shown)

-- INDEX ON makes an index anew and opens it alone
abbrev pub index_on_of : ℕ → OpenState → (ℕ → Bool) → Landing
index_on_of number o shown = at_higher_cost (length o.table.rows)
    (end_of shown true (order_pairs (Some number) o.table))

-- USE opens these indexes, and makes the stale ones of them anew
abbrev pub open_of : List ℕ → OpenState → (ℕ → Bool) → Landing
open_of indexes o shown =
    at_higher_cost (length o.table.rows * count_stale indexes o.table.marks)
    (end_of shown true (order_pairs (slice_get indexes 0) o.table))

abbrev pub with_list : ℕ → Option Use → Option Use
with_list list None = None
with_list list (Some u) = Some (record { table = u.table; list = list; filter = u.filter })

-- another filter in an area
abbrev pub with_filter : ℕ → Option Use → Option Use
with_filter filter None = None
with_filter filter (Some u) = Some (record { table = u.table; list = u.list; filter = filter })

-- the selected area's table after INDEX ON, and this list of indexes in that area
abbrev pub indexed_here : ℕ → OpenState → StoreState → StoreState
indexed_here list o s = with_use (with_here o s) s.selected (with_list list (selected_use s))

-- the selected area holds this table, with this list and no filter; what it held before is closed
abbrev pub used_here : ℕ → ℕ → OpenState → StoreState → StoreState
used_here t list o s =
    with_use (with_table (closed_here s) t o) s.selected (Some (record { table = t; list = list; filter = 0 }))

-- a change of the selected area's table ends so, for whatever the test shows of the rows that there will be
abbrev pub EndsHere : {F : Type 0} → (F → TriedRow → Bool → Type 0) → F → (OpenState → List Row)
    → (OpenState → OpenState) → (OpenState → (ℕ → Bool) → Landing) → StoreState → StoreState → ℕ → Result ℕ Refused
    → Type 0
EndsHere answers see rows change landing old new budget result =
    IfSome (here old) (λ o. (shown : ℕ → Bool) → ShowsRows answers see o.table.structure (rows o) shown
    → IsEnded (put_landed with_here (change o) old) old new (landing o shown) budget result)
