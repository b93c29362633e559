-- A store before and after: what became of its tables, and which stale indexes were made anew.
use Rattle.std.specs.Prelude.{◌≡◌, ℕ, Bool, false, not, ◌&&◌, List, [], Some, length, map, slice_get, slice_index_or}
use Rattle.std.specs.Global.{Vec}
use Rattle.row_changes.specs.Changes.{AreCounted}
use Rattle.row_changes.specs.declared.comparing.RowCounts.{RowCounts}
use Rattle.shape.specs.declared.whole.Shape.{Shape}
use Rattle.table_changes.specs.Rows.{tables_of, fresh_of, is_fresh_in}
use Rattle.table_changes.specs.declared.stores.Changes.{Changes}
use Rattle.table_changes.specs.declared.stores.KeptStore.{KeptStore}
use Rattle.work_area.specs.Areas.{StoreState}

abbrev pub bytes_of_rows : Vec (Vec ℕ) → List (List ℕ)
bytes_of_rows rows = map (λ (row : Vec ℕ). row.items) rows.items

-- what is kept of a store
pub record AreKept (shape : Shape) (store : StoreState) (kept : KeptStore) : Type 0 where
  pub count : length kept.rows.items ≡ length shape.tables
  pub rows : map bytes_of_rows kept.rows.items ≡ tables_of store
  pub fresh : kept.fresh.items ≡ fresh_of store (length shape.indexes)

-- what became of each table's rows
abbrev pub EachCounted : List (List (List ℕ)) → List (List (List ℕ)) → List RowCounts → Type 0
EachCounted before after counts = (t : ℕ) (c : RowCounts) → slice_get counts t ≡ Some c
    → AreCounted (slice_index_or before t []) (slice_index_or after t []) c

-- whether each index was stale and is fresh
abbrev pub EachMade : List Bool → StoreState → List Bool → Type 0
EachMade fresh after made = (n : ℕ) (anew : Bool) → slice_get made n ≡ Some anew
    → anew ≡ (not (slice_index_or fresh n false) && is_fresh_in after n)

-- what became of each declared table, and whether each declared index was stale and is made anew
pub record AreChanges (shape : Shape) (before after : StoreState) (changes : Changes) : Type 0 where
  pub tables : length changes.tables.items ≡ length shape.tables
  pub counted : EachCounted (tables_of before) (tables_of after) changes.tables.items
  pub indexes : length changes.made.items ≡ length shape.indexes
  pub made : EachMade (fresh_of before (length shape.indexes)) after changes.made.items
