-- Rows, and how they stand in bytes: for each row its mark and the texts of its fields, one behind the other. The byte
-- 32 is a blank, 42 an asterisk.
use Rattle.std.specs.Prelude.{◌≡◌, ℕ, zero, suc, Bool, true, false, not, ◌&&◌, ◌||◌, ◌==◌, if◌then◌else◌, List, [], ◌∷◌}
use Rattle.std.specs.Prelude.{length, take, drop, map, filter, slice_index, slice_index_or, slice_set, replicate}
use Rattle.std.specs.List.{flat_map, concat}
use Rattle.dbf_file.specs.Fields.{size_of}

-- a row: whether it is marked, and the text of each field
pub record Row : Type 0 where
  pub marked : Bool
  pub texts : List (List ℕ)

-- a row of fields of these widths
abbrev pub HasWidths : List ℕ → Row → Type 0
HasWidths widths row = map length row.texts ≡ widths

-- ---- rows as bytes

abbrev pub mark_byte : Bool → ℕ
mark_byte marked = if marked then 42 else 32

-- a row's bytes
unfoldable pub row_text : Row → List ℕ
row_text row = mark_byte row.marked ∷ concat row.texts

-- the bytes of rows
unfoldable pub rows_text : List Row → List ℕ
rows_text rows = flat_map row_text rows

-- bytes cut into texts of these widths
unfoldable pub texts_cut : List ℕ → List ℕ → List (List ℕ)
texts_cut [] bytes = []
texts_cut (width ∷ widths) bytes = take width bytes ∷ texts_cut widths (drop width bytes)

-- the row at the front of the bytes
unfoldable pub row_in : List ℕ → List ℕ → Row
row_in widths bytes = record { marked = slice_index bytes 0 == 42; texts = texts_cut widths (drop 1 bytes) }

-- so many rows, one behind the other
unfoldable pub rows_in : List ℕ → ℕ → List ℕ → List Row
rows_in widths zero bytes = []
rows_in widths (suc n) bytes = row_in widths bytes ∷ rows_in widths n (drop (size_of widths) bytes)

abbrev pub is_mark : ℕ → Bool
is_mark byte = byte == 32 || byte == 42

-- whether so many records of this size each begin with a mark
unfoldable pub are_marked : ℕ → ℕ → List ℕ → Bool
are_marked size zero bytes = true
are_marked size (suc n) bytes = is_mark (slice_index bytes 0) && are_marked size n (drop size bytes)

-- ---- parts of rows

abbrev pub no_row : Row
no_row = record { marked = false; texts = [] }

abbrev pub row_at : List Row → ℕ → Row
row_at rows r = slice_index_or rows r no_row

-- the mark of row r
abbrev pub is_marked_at : List Row → ℕ → Bool
is_marked_at rows r = (row_at rows r).marked

-- the text of field f in row r
abbrev pub text_at : List Row → ℕ → ℕ → List ℕ
text_at rows r f = slice_index_or (row_at rows r).texts f []

-- ---- changes

-- the rows with another mark at row r
abbrev pub with_mark : List Row → ℕ → Bool → List Row
with_mark rows r marked = slice_set rows r (record { marked = marked; texts = (row_at rows r).texts })

-- the rows with another text in field f of row r
abbrev pub with_text : List Row → ℕ → ℕ → List ℕ → List Row
with_text rows r f text =
    slice_set rows r (record { marked = (row_at rows r).marked; texts = slice_set (row_at rows r).texts f text })

-- a live row of blanks
abbrev pub blank_row : List ℕ → Row
blank_row widths = record { marked = false; texts = map (λ width. replicate width 32) widths }

-- the rows that aren't marked, in their order
abbrev pub unmarked : List Row → List Row
unmarked rows = filter (λ row. not row.marked) rows
