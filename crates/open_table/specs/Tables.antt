-- A table with its declared indexes: orders, and what the changes make of it.
use Rattle.std.specs.Prelude.{◌≡◌, ℕ, ◌-◌, ◌≤◌, ◌↔◌, Bool, true, false, Option, Some, None, List, [], ◌∷◌, ◌++◌, length}
use Rattle.std.specs.Prelude.{All, slice_index, map, ⊤, option_map}
use Rattle.dbf_file.specs.Rows.{Row, row_at, with_text, with_mark, blank_row, unmarked}
use Rattle.dbf_file.specs.Tables.{StructureState, TableState, row_widths, decimals_at}
use Rattle.dbf_file.specs.Values.{text_by}
use Rattle.key_lists.specs.Pairs.{Pair}
use Rattle.shape.specs.declared.parts.KeyPart.{KeyPart}
use Rattle.shape.specs.Keys.{key_of}
use Rattle.row_keys.specs.Lists.{index_list}
use Rattle.row_moves.specs.Orders.{record_order}
use Rattle.open_table.specs.Marks.{IndexMark, mark_at, is_fresh, with_stale, parts_in, left_stale, only_fresh}
use Rattle.open_table.specs.Marks.{made_fresh}
use Rattle.open_table.specs.Slots.{SlotState, IsSlot, mark_of}
use Rattle.xvalue.specs.declared.value.Value.{Value}

-- what callers see of it: the structure, the rows, and the indexes with their marks
pub record IndexedState : Type 0 where
  pub structure : StructureState
  pub rows : List Row
  pub marks : List IndexMark

abbrev pub indexed : TableState → List SlotState → IndexedState
indexed table slots = record { structure = table.structure; rows = table.rows; marks = map mark_of slots }

-- each list that isn't stale lists the rows
pub record IsIndexed (table : TableState) (slots : List SlotState) : Type 0 where
  pub few : length table.rows ≤ 1000000
  pub exact : All (IsSlot table.structure table.rows) slots

-- ---- orders: record order, or that of an index by its number

-- an index that gives an order is there and isn't stale
abbrev pub IsOrder : Option ℕ → IndexedState → Type 0
IsOrder None t = ⊤
IsOrder (Some n) t = is_fresh (mark_at t.marks n) ≡ true

-- rows in an order, by the keys of these indexes
abbrev pub pairs_in_order : Option ℕ → List IndexMark → List Row → List Pair
pairs_in_order None marks rows = record_order (length rows)
pairs_in_order (Some n) marks rows = index_list (parts_in (mark_at marks n)) rows

-- the rows in an order
abbrev pub order_pairs : Option ℕ → IndexedState → List Pair
order_pairs order t = pairs_in_order order t.marks t.rows

-- how the keys of an order are made; those of record order have no parts
abbrev pub order_parts : Option ℕ → List IndexMark → List KeyPart
order_parts None marks = []
order_parts (Some n) marks = parts_in (mark_at marks n)

-- the key of record n in an order; in record order there is none
abbrev pub order_key : Option ℕ → IndexedState → ℕ → List ℕ
order_key None t n = []
order_key (Some k) t n = key_of (parts_in (mark_at t.marks k)) (row_at t.rows (n - 1)).texts

-- the pair of the record that is pointed to, none at the end of file
abbrev pub pair_at : Option ℕ → IndexedState → Option ℕ → Option Pair
pair_at order t pointer = option_map (λ n. (order_key order t n, n)) pointer

-- ---- changes

-- a blank row more; closed indexes go stale
abbrev pub appended : List ℕ → IndexedState → IndexedState
appended open_numbers t = record {
  structure = t.structure;
  rows = t.rows ++ blank_row (row_widths t.structure) ∷ [];
  marks = left_stale open_numbers t.marks;
}

-- another value in field f of row r, both counted from 0; closed indexes go stale
abbrev pub replaced : List ℕ → ℕ → ℕ → Value → IndexedState → IndexedState
replaced open_numbers r f from t = record {
  structure = t.structure;
  rows = with_text t.rows r f (text_by (slice_index (row_widths t.structure) f) (decimals_at t.structure f) from);
  marks = left_stale open_numbers t.marks;
}

-- row r, counted from 0, marked or not; no index goes stale
abbrev pub remarked : ℕ → Bool → IndexedState → IndexedState
remarked r marked t = record { structure = t.structure; rows = with_mark t.rows r marked; marks = t.marks }

-- without the marked rows; the open indexes alone aren't stale
abbrev pub packed : List ℕ → IndexedState → IndexedState
packed open_numbers t =
    record { structure = t.structure; rows = unmarked t.rows; marks = only_fresh open_numbers t.marks }

-- without rows; the open indexes alone aren't stale
abbrev pub emptied : List ℕ → IndexedState → IndexedState
emptied open_numbers t = record { structure = t.structure; rows = []; marks = only_fresh open_numbers t.marks }

-- these indexes made anew
abbrev pub remade : List ℕ → IndexedState → IndexedState
remade numbers t = record { structure = t.structure; rows = t.rows; marks = made_fresh numbers t.marks }

-- a declared index more, with its mark; it isn't stale just where a fact holds
pub record HasDeclared (Exact : Type 0) (mark : IndexMark) (old new : IndexedState) : Type 0 where
  pub stale : Bool
  pub added : new ≡ record {
    structure = old.structure;
    rows = old.rows;
    marks = old.marks ++ with_stale mark stale ∷ [];
  }
  pub told : (stale ≡ false) ↔ Exact
