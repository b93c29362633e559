-- The declared indexes of a table, and which of them are stale.
use Rattle.std.specs.Prelude.{ℕ, Bool, false, not, ◌||◌, ◌&&◌, ◌==◌, Option, Some, None, List, [], map, filter, find}
use Rattle.std.specs.Prelude.{length}
use Rattle.std.specs.List.{list_any}
use Rattle.dbf_file.specs.Tables.{StructureState, row_widths}
use Rattle.key_lists.specs.KeyForm.{KeyForm}
use Rattle.shape.specs.declared.parts.KeyPart.{KeyPart}
use Rattle.shape.specs.Keys.{key_length}

-- a declared index: its number, how a row's key is made, the text that says so, and whether it is stale
pub record IndexMark : Type 0 where
  pub number : ℕ
  pub parts : List KeyPart
  pub text : List ℕ
  pub stale : Bool

-- whether a number is among some
abbrev pub is_among : List ℕ → ℕ → Bool
is_among numbers n = list_any (λ other. other == n) numbers

-- the index of a number
abbrev pub mark_at : List IndexMark → ℕ → Option IndexMark
mark_at marks n = find (λ m. m.number == n) marks

abbrev pub is_fresh : Option IndexMark → Bool
is_fresh None = false
is_fresh (Some m) = not m.stale

-- how the keys of an index are made
abbrev pub parts_in : Option IndexMark → List KeyPart
parts_in None = []
parts_in (Some m) = m.parts

-- the text that says so
abbrev pub text_in : Option IndexMark → List ℕ
text_in None = []
text_in (Some m) = m.text

-- what the keys of an index of a table of this structure look like: their length, and the text that says how they are
-- made
abbrev pub form_in : StructureState → Option IndexMark → KeyForm
form_in structure mark =
    record { key_length = key_length (parts_in mark) (row_widths structure); key_text = text_in mark }

abbrev pub with_stale : IndexMark → Bool → IndexMark
with_stale m stale = record { number = m.number; parts = m.parts; text = m.text; stale = stale }

-- a change of the rows leaves each index but the open ones stale
abbrev pub left_stale : List ℕ → List IndexMark → List IndexMark
left_stale open_numbers marks = map (λ m. with_stale m (m.stale || not (is_among open_numbers m.number))) marks

-- indexes that were made anew are stale no more
abbrev pub made_fresh : List ℕ → List IndexMark → List IndexMark
made_fresh numbers marks = map (λ m. with_stale m (m.stale && not (is_among numbers m.number))) marks

-- these alone aren't stale
abbrev pub only_fresh : List ℕ → List IndexMark → List IndexMark
only_fresh numbers marks = map (λ m. with_stale m (not (is_among numbers m.number))) marks

-- how many of these are stale
abbrev pub count_stale : List ℕ → List IndexMark → ℕ
count_stale numbers marks = length (filter (λ n. not (is_fresh (mark_at marks n))) numbers)
