-- A table in use: its open indexes, order and pointer, and what moves and changes make of them.
use Rattle.std.specs.Prelude.{◌≡◌, ℕ, zero, suc, ◌+◌, ◌-◌, ◌<◌, ◌≤◌, Bool, true, false, Option, Some, None, Result}
use Rattle.std.specs.Prelude.{List, [], ◌∷◌, length, All, slice_get, slice_index_or, option_map, MatchResult, nat_le}
use Rattle.std.specs.Prelude.{◌&&◌, if◌then◌else◌}
use Rattle.dbf_file.specs.Rows.{Row, row_at, blank_row}
use Rattle.dbf_file.specs.Tables.{TableState, row_widths, letter_at, decimals_at}
use Rattle.dbf_file.specs.Values.{value_by}
use Rattle.row_moves.specs.declared.landed.Spent.{Spent}
use Rattle.row_moves.specs.Moves.{Landing}
use Rattle.open_table.specs.declared.refused.Refused.{Refused}
use Rattle.open_table.specs.Passes.{IsRefusal}
use Rattle.open_table.specs.Marks.{mark_at, is_fresh}
use Rattle.open_table.specs.Slots.{SlotState}
use Rattle.open_table.specs.Tables.{IndexedState, IsIndexed, indexed, appended, replaced, remarked, remade}
use Rattle.xvalue.specs.declared.value.Value.{Value}

-- the table, the numbers of its open indexes, the order (0 is record order, 1 that of the first index), the record that
-- is pointed to (none at the end of file), and the answers of BOF() and FOUND()
pub record OpenState : Type 0 where
  pub table : IndexedState
  pub list : List ℕ
  pub order : ℕ
  pub pointer : Option ℕ
  pub bof : Bool
  pub found : Bool

-- at most seven indexes are open, none of them stale, and the order is one of theirs
pub record IsOpen (table : IndexedState) (list : List ℕ) (order : ℕ) : Type 0 where
  pub few : length list ≤ 7
  pub fresh : All (λ n. is_fresh (mark_at table.marks n) ≡ true) list
  pub order_within : order ≤ length list

-- a table in use with its indexes: each that isn't stale lists the rows
pub record IsInUse (table : TableState) (slots : List SlotState) (list : List ℕ) (order : ℕ) : Type 0 where
  pub lists : IsIndexed table slots
  pub is_open : IsOpen (indexed table slots) list order

-- the index of an order, none for record order
abbrev pub order_index : ℕ → List ℕ → Option ℕ
order_index zero list = None
order_index (suc n) list = slice_get list n

-- the pointer and the answers where a move leads
abbrev pub landed : OpenState → Landing → OpenState
landed a landing = record {
  table = a.table;
  list = a.list;
  order = a.order;
  pointer = option_map (λ p. p.1) landing.at;
  bof = landing.bof;
  found = landing.found;
}

-- a move that the budget covers makes this of where it leads; one whose cost is above it changes nothing
abbrev pub IsMoved : {S : Type 0} → (Landing → S) → S → S → Landing → ℕ → Result ℕ Spent → Type 0
IsMoved moved old new landing budget result = MatchResult result
    (λ cost. (cost ≡ 1 + landing.met) × (cost ≤ budget) × (new ≡ moved landing))
    (λ _. (budget < 1 + landing.met) × (new ≡ old))

-- the record of a number, none where there aren't so many
abbrev pub within : ℕ → Option ℕ → Option ℕ
within count None = None
within count (Some n) = if nat_le 1 n && nat_le n count then Some n else None

-- GO: the record of a number, or the end of file; no row is met
abbrev pub gone_to : OpenState → Option ℕ → OpenState
gone_to a pointer =
    record { table = a.table; list = a.list; order = a.order; pointer = pointer; bof = false; found = false }

-- to the record of a number, or the end of file where there is none
abbrev pub gone : Option ℕ → OpenState → OpenState
gone number a = gone_to a (within (length a.table.rows) number)

-- APPEND: a blank row, which is pointed to
abbrev pub with_blank : OpenState → OpenState
with_blank a = record {
  table = appended a.list a.table;
  list = a.list;
  order = a.order;
  pointer = Some (length a.table.rows + 1);
  bof = false;
  found = false;
}

-- the same place in another table
abbrev pub in_table : OpenState → IndexedState → OpenState
in_table a table =
    record { table = table; list = a.list; order = a.order; pointer = a.pointer; bof = a.bof; found = a.found }

-- the place of the record that is pointed to, counted from 0, none at the end of file
abbrev pub place_in : ℕ → Option ℕ → Option ℕ
place_in count None = None
place_in count (Some n) = if nat_le 1 n && nat_le n count then Some (n - 1) else None

abbrev pub replaced_at : OpenState → ℕ → Value → Option ℕ → IndexedState
replaced_at a f from None = a.table
replaced_at a f from (Some r) = replaced a.list r f from a.table

-- SET ORDER: another order
abbrev pub reordered : ℕ → OpenState → OpenState
reordered order a =
    record { table = a.table; list = a.list; order = order; pointer = a.pointer; bof = a.bof; found = a.found }

abbrev pub row_there : List ℕ → List Row → Option ℕ → Row
row_there widths rows None = blank_row widths
row_there widths rows (Some r) = row_at rows r

-- the record that is pointed to; at the end of file a blank row, which isn't marked
abbrev pub current_row : OpenState → Row
current_row a = row_there (row_widths a.table.structure) a.table.rows (place_in (length a.table.rows) a.pointer)

-- DELETED()
abbrev pub deleted_of : OpenState → Bool
deleted_of a = (current_row a).marked

-- the value of field f, counted from 0, of the record that is pointed to
abbrev pub field_of : ℕ → OpenState → Value
field_of f a = value_by (letter_at a.table.structure f) (decimals_at a.table.structure f)
    (slice_index_or (current_row a).texts f [])

-- REPLACE: another value in a field of the record that is pointed to; at the end of file nothing changes
abbrev pub replaced_here : ℕ → Value → OpenState → OpenState
replaced_here f from a = in_table a (replaced_at a f from (place_in (length a.table.rows) a.pointer))

abbrev pub remarked_at : OpenState → Bool → Option ℕ → IndexedState
remarked_at a marked None = a.table
remarked_at a marked (Some r) = remarked r marked a.table

-- DELETE and RECALL: the record that is pointed to is marked or not; at the end of file nothing changes
abbrev pub remarked_here : Bool → OpenState → OpenState
remarked_here marked a = in_table a (remarked_at a marked (place_in (length a.table.rows) a.pointer))

-- a change that ends with a move makes this of where that leads; one that is refused changes nothing
abbrev pub IsEnded : {S : Type 0} → (Landing → S) → S → S → Landing → ℕ → Result ℕ Refused → Type 0
IsEnded changed old new landing budget result = MatchResult result
    (λ cost. (cost ≡ 1 + landing.met) × (cost ≤ budget) × (new ≡ changed landing))
    (λ refused. IsRefusal landing budget refused × (new ≡ old))

-- the order of a list that is opened: its first index, or record order where it is empty
abbrev pub first_order : List ℕ → ℕ
first_order [] = 0
first_order (n ∷ list) = 1

-- these indexes opened, and the stale ones of them made anew
abbrev pub opened : List ℕ → OpenState → OpenState
opened list a = record {
  table = remade list a.table;
  list = list;
  order = first_order list;
  pointer = a.pointer;
  bof = a.bof;
  found = a.found;
}

-- no longer in use: no index is open, and nothing is pointed to
abbrev pub closed : OpenState → OpenState
closed a = record { table = a.table; list = []; order = 0; pointer = None; bof = false; found = false }
