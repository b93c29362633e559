-- What an index lists, and what a change of the rows does to it.
use Rattle.std.specs.Prelude.{◌≡◌, ℕ, Bool, ◌+◌, ◌<◌, List, [], ◌∷◌, ◌++◌, length, slice_set}
use Rattle.std.specs.Prelude.{Contains, filter, true, false, not, ◌==◌}
use Rattle.std.specs.List.{list_any}
use Rattle.dbf_file.specs.Rows.{Row, row_at, with_mark}
use Rattle.dbf_file.specs.Tables.{StructureState, row_widths}
use Rattle.key_lists.specs.KeyForm.{KeyForm, IsKeyText}
use Rattle.key_lists.specs.Order.{IsAscending, inserted, without, in_order}
use Rattle.key_lists.specs.Pairs.{Pair, is_before}
use Rattle.key_lists.specs.SortedList.{SortedList}
use Rattle.row_keys.specs.declared.building.Kept.{Kept}
use Rattle.row_keys.specs.declared.building.Kept.TheVariants.{Every, Unmarked, Nothing}
use Rattle.shape.specs.declared.parts.KeyPart.{KeyPart}
use Rattle.shape.specs.Keys.{IsKey, key_of, key_length}

-- the pair of each row, in the order of the records, the first of them with this number
abbrev pub row_pairs : List KeyPart → ℕ → List Row → List Pair
row_pairs parts n [] = []
row_pairs parts n (row ∷ rows) = (key_of parts row.texts, n) ∷ row_pairs parts (n + 1) rows

-- what an index over the rows lists: the pair of each, marked or not, in order
unfoldable pub index_list : List KeyPart → List Row → List Pair
index_list parts rows = in_order is_before (row_pairs parts 1 rows)

-- the pair of row r, counted from 0
unfoldable pub row_pair : List KeyPart → List Row → ℕ → Pair
row_pair parts rows r = (key_of parts (row_at rows r).texts, r + 1)

-- whether a row is kept
abbrev pub is_kept : Kept → Row → Bool
is_kept Every row = true
is_kept Unmarked row = not row.marked
is_kept Nothing row = false

-- the rows that are kept, in their order
abbrev pub kept_rows : Kept → List Row → List Row
kept_rows kept rows = filter (is_kept kept) rows

-- what follows of the list for every key and all rows
pub record IsIndexList (parts : List KeyPart) (rows : List Row) : Type 0 where
  -- keys rise, and records of one key
  pub ordered : IsAscending is_before (index_list parts rows)
  -- each row is listed, and nothing else
  pub listed : (r : ℕ) → r < length rows → Contains (index_list parts rows) (row_pair parts rows r)
  pub only : (key : List ℕ) (n : ℕ) → Contains (index_list parts rows) (key, n) → (r : ℕ) × (r < length rows)
      × ((key, n) ≡ row_pair parts rows r)
  pub count : length (index_list parts rows) ≡ length rows
  -- a row at the end goes in
  pub added : (row : Row) → index_list parts (rows ++ row ∷ [])
      ≡ inserted is_before (key_of parts row.texts, length rows + 1) (index_list parts rows)
  -- a row that changes goes out and in again
  pub changed : (r : ℕ) (row : Row) → r < length rows
      → index_list parts (slice_set rows r row)
      ≡ inserted is_before (key_of parts row.texts, r + 1)
      (without is_before (row_pair parts rows r) (index_list parts rows))
  -- while it is out, no pair has its number
  pub out : (r : ℕ) (key : List ℕ) → r < length rows
      → Contains (without is_before (row_pair parts rows r) (index_list parts rows)) (key, r + 1) → ⊥
  -- a mark doesn't count
  pub marked : (r : ℕ) (mark : Bool) → index_list parts (with_mark rows r mark) ≡ index_list parts rows

-- whether a key is made of a field among others
abbrev pub names_field : List KeyPart → ℕ → Bool
names_field parts f = list_any (λ part. part.field == f) parts

-- ---- lists of keys

-- what callers see of a list whose pairs, reservation and form are found so
abbrev pub list_by : {L : Type 0} → (L → List Pair) → (L → ℕ) → (L → KeyForm) → L → SortedList
list_by pairs spare form list = record { pairs = pairs list; spare = spare list; form = form list }

-- a list of the keys that these parts make in a table of this structure
pub record IsIndexOf (structure : StructureState) (parts : List KeyPart) (list : SortedList) : Type 0 where
  pub key : IsKey structure parts
  pub length : list.form.key_length ≡ key_length parts (row_widths structure)
  pub text : IsKeyText list.form.key_text

-- it lists the rows
pub record IsExact (structure : StructureState) (rows : List Row) (parts : List KeyPart)
    (list : SortedList) : Type 0 where
  pub sound : IsIndexOf structure parts list
  pub pairs : list.pairs ≡ index_list parts rows

-- as it was, but for its room
pub record IsAsBefore (old new : SortedList) : Type 0 where
  pub form : new.form ≡ old.form
  pub pairs : new.pairs ≡ old.pairs

-- the pair of row r put in
pub record HasAdded (rows : List Row) (r : ℕ) (parts : List KeyPart) (old new : SortedList) : Type 0 where
  pub form : new.form ≡ old.form
  pub pairs : new.pairs ≡ inserted is_before (row_pair parts rows r) old.pairs

-- keys are made as before, and the list is that of these rows
pub record HasFollowed (structure : StructureState) (rows : List Row) (parts : List KeyPart)
    (old new : SortedList) : Type 0 where
  pub form : new.form ≡ old.form
  pub exact : IsExact structure rows parts new
