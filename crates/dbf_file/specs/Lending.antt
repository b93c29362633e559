-- How a table lends the text of a field.
use Rattle.std.specs.Prelude.{ℕ, ◌+◌, ◌*◌, ◌==◌, if◌then◌else◌, List, ◌++◌, length, take, drop, slice_index}
use Rattle.std.specs.Borrow.{Lends, MutBor, Fml, u8, Array}
use Rattle.dbf_file.specs.Fields.{total, size_of}
use Rattle.dbf_file.specs.Rows.{Row, rows_in, rows_text, with_text}
use Rattle.dbf_file.specs.Tables.{TableState, row_widths}
use Rattle.dbf_file.specs.contracts.table.Table.{the_row}

-- where field f of row r begins
abbrev pub place_of_field : List ℕ → ℕ → ℕ → ℕ
place_of_field widths r f = r * size_of widths + 1 + total (take f widths)

-- bytes put over others from a place on
abbrev pub put_over : ℕ → List ℕ → List ℕ → List ℕ
put_over place text bytes = take place bytes ++ (text ++ drop (length text) (drop place bytes))

-- the same, and no byte more than there were
abbrev pub put_within : ℕ → List ℕ → List ℕ → List ℕ
put_within place text bytes = take (length bytes) (put_over place text bytes)

-- The rows with this text in field f of row r. A slice keeps its length, so no text of another length can be left
-- there; it would stand over what is behind it.
unfoldable pub rows_left : List ℕ → List Row → ℕ → ℕ → List ℕ → List Row
rows_left widths rows r f text =
    if length text == slice_index widths f then with_text rows r f text
    else rows_in widths (length rows) (put_within (place_of_field widths r f) text (rows_text rows))

-- The table ends with the last text behind the result in field f of row r, and otherwise as it was.
abbrev pub LendsText : MutBor TableState → ℕ → ℕ → MutBor (List ℕ) → Fml
LendsText table r f text =
    Lends the_row (Array u8 0) table text
    (λ (w : List ℕ). record {
      structure = table.now.structure;
      rows = rows_left (row_widths table.now.structure) table.now.rows r f w;
      spare = table.now.spare;
    })
