-- The ten work areas over the declared tables. Areas count from 1, tables from 0.
use Rattle.std.specs.Prelude.{◌≡◌, ℕ, ◌-◌, ◌<◌, ◌≤◌, Bool, true, false, ◌==◌, Option, Some, None, List, length, map, find}
use Rattle.std.specs.Prelude.{All, is_some, slice_get, slice_index_or, slice_set, replicate, if◌then◌else◌}
use Rattle.std.specs.List.{list_any}
use Rattle.open_table.specs.Open.{OpenState, closed}
use Rattle.open_table.specs.Marks.{IndexMark, mark_at, is_fresh}
use Rattle.work_area.specs.declared.uses.Use.{Use}

-- what callers see: each declared table with its open indexes, order and pointer, in use or not; what each of the ten
-- areas holds; the selected area; and how many records a table may have
pub record StoreState : Type 0 where
  pub tables : List OpenState
  pub areas : List (Option Use)
  pub selected : ℕ
  pub limit : ℕ

-- what an area holds
abbrev pub use_at : StoreState → ℕ → Option Use
use_at s area = slice_index_or s.areas (area - 1) None

abbrev pub selected_use : StoreState → Option Use
selected_use s = use_at s s.selected

-- a declared table
abbrev pub table_at : StoreState → ℕ → Option OpenState
table_at s t = slice_get s.tables t

abbrev pub used_table : StoreState → Option Use → Option OpenState
used_table s None = None
used_table s (Some u) = table_at s u.table

-- the table that an area holds
abbrev pub area_table : StoreState → ℕ → Option OpenState
area_table s area = used_table s (use_at s area)

-- the table in use in the selected area
abbrev pub here : StoreState → Option OpenState
here s = area_table s s.selected

-- ---- changes of one part

abbrev pub with_table : StoreState → ℕ → OpenState → StoreState
with_table s t o = record { tables = slice_set s.tables t o; areas = s.areas; selected = s.selected; limit = s.limit }

abbrev pub with_use : StoreState → ℕ → Option Use → StoreState
with_use s area u =
    record { tables = s.tables; areas = slice_set s.areas (area - 1) u; selected = s.selected; limit = s.limit }

abbrev pub with_selected : ℕ → StoreState → StoreState
with_selected area s = record { tables = s.tables; areas = s.areas; selected = area; limit = s.limit }

abbrev pub with_used : Option Use → OpenState → StoreState → StoreState
with_used None o s = s
with_used (Some u) o s = with_table s u.table o

-- the selected area's table replaced; where that area is closed nothing changes
abbrev pub with_here : OpenState → StoreState → StoreState
with_here o s = with_used (selected_use s) o s

abbrev pub changed_found : (OpenState → OpenState) → Option OpenState → StoreState → StoreState
changed_found f None s = s
changed_found f (Some o) s = with_here (f o) s

-- the selected area's table changed; where that area is closed nothing changes
abbrev pub change_here : (OpenState → OpenState) → StoreState → StoreState
change_here f s = changed_found f (here s) s

-- ---- closing

-- the selected area closed, and its table in use no more
abbrev pub closed_here : StoreState → StoreState
closed_here s = with_use (change_here closed s) s.selected None

abbrev pub closed_at : ℕ → Option OpenState → StoreState → StoreState
closed_at t None s = s
closed_at t (Some o) s = with_table s t (closed o)

-- a table that is held in use no more, unless it is this one
abbrev pub closed_other : ℕ → Option Use → StoreState → StoreState
closed_other t None s = s
closed_other t (Some u) s = if u.table == t then s else closed_at u.table (table_at s u.table) s

-- all areas closed, no table in use, and area 1 selected
abbrev pub closed_all : StoreState → StoreState
closed_all s = record { tables = map closed s.tables; areas = replicate 10 None; selected = 1; limit = s.limit }

abbrev pub holds : ℕ → Option Use → Bool
holds t None = false
holds t (Some u) = u.table == t

-- whether another area than the selected one holds the table
abbrev pub is_elsewhere : StoreState → ℕ → Bool
is_elsewhere s t = list_any (holds t) (with_use s s.selected None).areas

-- the first table that has a declared index of this number
abbrev pub index_table : StoreState → ℕ → Option OpenState
index_table s number = find (λ o. is_some (mark_at o.table.marks number)) s.tables

abbrev pub mark_in : Option OpenState → ℕ → Option IndexMark
mark_in None number = None
mark_in (Some o) number = mark_at o.table.marks number

-- ---- what holds of every store

-- no two areas hold one table
abbrev pub AreApart : List (Option Use) → Type 0
AreApart areas = (a b : ℕ) (u v : Use) → slice_index_or areas a None ≡ Some u → slice_index_or areas b None ≡ Some v
    → u.table ≡ v.table → a ≡ b

-- no table has more records than this
abbrev pub AreWithin : ℕ → List OpenState → Type 0
AreWithin limit tables = All (λ o. length o.table.rows ≤ limit) tables

pub record IsStore (tables : List OpenState) (areas : List (Option Use)) (selected limit : ℕ) : Type 0 where
  pub ten : length areas ≡ 10
  pub one : 1 ≤ selected
  pub last : selected ≤ 10
  pub few : limit ≤ 1000000
  -- an area holds a declared table
  pub declared : (a : ℕ) (u : Use) → slice_index_or areas a None ≡ Some u → u.table < length tables
  pub apart : AreApart areas
  -- APPEND to a table with as many records as the limit is refused
  pub within : AreWithin limit tables

-- this is the most records that a table may have, and none has more
pub record IsWithinLimit (limit : ℕ) (s : StoreState) : Type 0 where
  pub limit_is : s.limit ≡ limit
  pub within : AreWithin limit s.tables

-- no open index of any table is marked stale
abbrev pub NoOpenIndexIsStale : StoreState → Type 0
NoOpenIndexIsStale s = (t : ℕ) (o : OpenState) → table_at s t ≡ Some o
    → All (λ n. is_fresh (mark_at o.table.marks n) ≡ true) o.list
