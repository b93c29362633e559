-- The lines of listings. The byte 32 is a blank, 10 ends a line.
use Rattle.std.specs.Prelude.{ℕ, ◌+◌, ◌-◌, List, [], ◌∷◌, ◌++◌, length, map, replicate, codes}
use Rattle.std.specs.List.{flat_map}
use Rattle.std.specs.Fmt.{decimal}
use Rattle.dbf_file.specs.declared.field.Field.{Field}
use Rattle.dbf_file.specs.Fields.{code_of}
use Rattle.dbf_file.specs.Rows.{Row, mark_byte}
use Rattle.dbf_file.specs.Values.{value_of}
use Rattle.key_lists.specs.KeyForm.{KeyForm}
use Rattle.key_lists.specs.Pairs.{Pair}
use Rattle.screen_lines.specs.Roll.{shown_byte}
use Rattle.xvalue.specs.Setting.{settings_off}
use Rattle.xvalue.specs.Shown.{shown}

-- a number right in seven places
abbrev pub in_seven_places : ℕ → List ℕ
in_seven_places n = replicate (7 - length (decimal n)) 32 ++ decimal n

-- ---- an index: its key's text and length, and a line for each pair

unfoldable pub key_line : KeyForm → List ℕ
key_line form = form.key_text ++ 32 ∷ (decimal form.key_length ++ 10 ∷ [])

-- the record, a blank and the key's bytes
unfoldable pub pair_line : Pair → List ℕ
pair_line p = in_seven_places p.1 ++ 32 ∷ (p.0 ++ 10 ∷ [])

abbrev pub index_lines : KeyForm → List Pair → List ℕ
index_lines form pairs = key_line form ++ flat_map pair_line pairs

-- ---- a table: a line for each field, the number of rows, and a line for each row

-- name, letter, width and decimals
unfoldable pub field_line : Field → List ℕ
field_line f = f.name.items ++ 32 ∷ (code_of f.letter ∷ 32 ∷ (decimal f.width ++ 32 ∷ (decimal f.decimals ++ 10 ∷ [])))

unfoldable pub count_line : ℕ → List ℕ
count_line n = codes "records " ++ (decimal n ++ 10 ∷ [])

-- a field of a row as the screen shows it, all settings being off, with the blanks at its end
unfoldable pub cell : Field → List ℕ → List ℕ
cell f text = map shown_byte (shown settings_off (value_of f text))

-- the cells of a row, a blank before each
abbrev pub cells : List Field → List (List ℕ) → List ℕ
cells [] texts = []
cells (f ∷ fields) [] = []
cells (f ∷ fields) (text ∷ texts) = 32 ∷ (cell f text ++ cells fields texts)

-- the row's number, a blank, its mark as a table's file has it, and its cells
unfoldable pub row_line : List Field → ℕ → Row → List ℕ
row_line fields n row = in_seven_places n ++ 32 ∷ mark_byte row.marked ∷ (cells fields row.texts ++ 10 ∷ [])

-- rows are numbered from 1
abbrev pub row_lines : List Field → ℕ → List Row → List ℕ
row_lines fields n [] = []
row_lines fields n (row ∷ rows) = row_line fields n row ++ row_lines fields (n + 1) rows

abbrev pub table_lines : List Field → List Row → List ℕ
table_lines fields rows = flat_map field_line fields ++ (count_line (length rows) ++ row_lines fields 1 rows)
