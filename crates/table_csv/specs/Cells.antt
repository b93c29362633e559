-- A table as lines of cells. The byte 32 is a blank, 42 an asterisk, 45 a hyphen.
use Rattle.std.specs.Prelude.{ℕ, ◌-◌, ◌==◌, Bool, List, [], ◌∷◌, ◌++◌, length, map, take, drop, codes}
use Rattle.std.specs.Prelude.{Option, Some, None, if◌then◌else◌}
use Rattle.std.specs.List.{flat_map, list_any, prefix_len, suffix_len}
use Rattle.calendar.specs.declared.day.DayParts.{DayParts}
use Rattle.csv.specs.Writing.{default_writer, row_text}
use Rattle.dbf_file.specs.declared.field.Field.{Field}
use Rattle.dbf_file.specs.declared.field.Letter.{Letter}
use Rattle.dbf_file.specs.declared.field.Letter.TheVariants.{C, N, D, L}
use Rattle.dbf_file.specs.Rows.{Row}
use Rattle.dbf_file.specs.Values.{day_in, is_yes}
use Rattle.std.specs.Prelude.{slice_index}

-- ---- cells

abbrev pub is_blank : ℕ → Bool
is_blank byte = byte == 32

-- a text without the blanks at its end, and without those at its front
abbrev pub end_trimmed : List ℕ → List ℕ
end_trimmed text = take (length text - suffix_len is_blank text) text

abbrev pub without_front : List ℕ → List ℕ
without_front text = drop (prefix_len is_blank text) text

-- a number as it stands, without the blanks around it; empty where asterisks stand for a number that had no room
unfoldable pub number_cell : List ℕ → List ℕ
number_cell text = if list_any (λ byte. byte == 42) text then [] else without_front (end_trimmed text)

-- YYYY-MM-DD of the eight digits of a day
abbrev pub hyphened : List ℕ → List ℕ
hyphened text = take 4 text ++ 45 ∷ (take 2 (drop 4 text) ++ 45 ∷ drop 6 text)

-- a day with hyphens; empty where the text is read as the blank date
abbrev pub hyphened_day : List ℕ → Option DayParts → List ℕ
hyphened_day text None = []
hyphened_day text (Some parts) = hyphened text

unfoldable pub day_cell : List ℕ → List ℕ
day_cell text = hyphened_day text (day_in text)

-- a truth value as it is read: what isn't true is false
unfoldable pub truth_cell : List ℕ → List ℕ
truth_cell text = if is_yes (slice_index text 0) then codes "true" else codes "false"

abbrev pub cell_by : Letter → List ℕ → List ℕ
cell_by C text = end_trimmed text
cell_by N text = number_cell text
cell_by D text = day_cell text
cell_by L text = truth_cell text

-- what is told of a field's text
unfoldable pub csv_cell : Field → List ℕ → List ℕ
csv_cell f text = cell_by f.letter text

-- ---- lines

-- the cells of a row's fields
abbrev pub csv_cells : List Field → List (List ℕ) → List (List ℕ)
csv_cells [] texts = []
csv_cells (f ∷ fields) [] = []
csv_cells (f ∷ fields) (text ∷ texts) = csv_cell f text ∷ csv_cells fields texts

-- an asterisk where the row is marked, else empty
abbrev pub mark_cell : Bool → List ℕ
mark_cell marked = if marked then 42 ∷ [] else []

-- the first line: a name for the marks, and the fields' names
abbrev pub names_line : List Field → List (List ℕ)
names_line fields = codes "DELETED" ∷ map (λ f. f.name.items) fields

-- a row: its mark, and its cells
abbrev pub csv_line : List Field → Row → List (List ℕ)
csv_line fields row = mark_cell row.marked ∷ csv_cells fields row.texts

-- a line of names, and a line for each row
abbrev pub lines_of : List Field → List Row → List (List (List ℕ))
lines_of fields rows = names_line fields ∷ map (csv_line fields) rows

-- lines as comma-separated values, each ended by a line feed, with quotes where a cell needs them
unfoldable pub lines_text : List (List (List ℕ)) → List ℕ
lines_text lines = flat_map (row_text default_writer) lines

abbrev pub csv_text : List Field → List Row → List ℕ
csv_text fields rows = lines_text (lines_of fields rows)
