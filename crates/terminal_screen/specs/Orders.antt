-- What a terminal is sent to show rows. 27 91 begin an order, 10 ends a line, 32 is a blank.
use Rattle.std.specs.Prelude.{ℕ, ◌≡◌, ◌<◌, ◌+◌, ◌-◌, ◌^◌, ◌==◌, ◌||◌, ◌&&◌, not, min, nat_lt, nat_le, zero, suc, Bool}
use Rattle.std.specs.Prelude.{true, false, List, [], ◌∷◌, ◌++◌, drop, get_or, length, take, slice_get, slice_set}
use Rattle.std.specs.Prelude.{Option, Some, None, MatchOption, if◌then◌else◌}
use Rattle.std.specs.List.{flat_map, list_any, suffix_len}
use Rattle.std.specs.Fmt.{decimal}
use Rattle.std.specs.Str.{bytes_eq}
use Rattle.code_pages.specs.declared.pages.CodePage.{CodePage}
use Rattle.terminal_screen.specs.Printable.{shown_letter}
use Rattle.terminal_screen.specs.declared.drawing.Drawing.{Drawing}
use Rattle.terminal_screen.specs.declared.drawing.Window.{Window}
use Rattle.terminal_screen.specs.declared.fields.ShownField.{ShownField}

-- ---- orders

-- lines and columns are counted from 0 here and from 1 in an order, as far as 2^64 - 1
abbrev pub from_one : ℕ → ℕ
from_one place = min (place + 1) (2 ^ 64 - 1)

-- the cursor goes to this line and column of the window
unfoldable pub cursor_order : ℕ → ℕ → List ℕ
cursor_order line column = 27 ∷ 91 ∷ (decimal (from_one line) ++ 59 ∷ (decimal (from_one column) ++ 72 ∷ []))

-- the cursor goes to the front of this line, which is cleared
unfoldable pub line_order : ℕ → List ℕ
line_order line = cursor_order line 0 ++ 27 ∷ 91 ∷ 50 ∷ 75 ∷ []

-- all below the cursor is cleared
abbrev pub rest_order : List ℕ
rest_order = 27 ∷ 91 ∷ 74 ∷ []

-- letters are in reverse from here on, and as usual
abbrev pub reverse_order : List ℕ
reverse_order = 27 ∷ 91 ∷ 55 ∷ 109 ∷ []

abbrev pub usual_order : List ℕ
usual_order = 27 ∷ 91 ∷ 48 ∷ 109 ∷ []

-- the window's last line is ended, so that all lines move up
unfoldable pub scroll_order : List ℕ
scroll_order = cursor_order 998 0 ++ 10 ∷ []

-- a letter behind the last column of its line stays there, or goes to the next line
abbrev pub unwrapped_order : List ℕ
unwrapped_order = 27 ∷ 91 ∷ 63 ∷ 55 ∷ 108 ∷ []

abbrev pub wrapped_order : List ℕ
wrapped_order = 27 ∷ 91 ∷ 63 ∷ 55 ∷ 104 ∷ []

-- ---- rows that were sent out

abbrev pub sent_letter : Option CodePage → ℕ → List ℕ
sent_letter page byte = if byte == 10 then 10 ∷ [] else shown_letter page byte

-- each byte of them is shown, and a line end stays; behind a last row that is begun alone, one is put
abbrev pub lines_shown : Option CodePage → Bool → List ℕ → List ℕ
lines_shown page begun [] = if begun then 10 ∷ [] else []
lines_shown page begun (byte ∷ bytes) = sent_letter page byte ++ lines_shown page (not (byte == 10)) bytes

-- the front of a row clears the window's first line, and its end moves all lines up
unfoldable pub scrolled_letter : Option CodePage → Bool → ℕ → List ℕ
scrolled_letter page fresh byte =
    (if fresh then line_order 0 else []) ++ (if byte == 10 then scroll_order else shown_letter page byte)

abbrev pub rows_scrolled : Option CodePage → Bool → List ℕ → List ℕ
rows_scrolled page fresh [] = if fresh then [] else scroll_order
rows_scrolled page fresh (byte ∷ bytes) = scrolled_letter page fresh byte ++ rows_scrolled page (byte == 10) bytes

-- ---- rows as they stand

-- whether a place of the screen lies in a field, and in one that waits
abbrev pub lies_in : ShownField → ℕ → ℕ → Bool
lies_in field row column =
    row == field.row && (nat_le field.column column && nat_lt (column - field.column) field.length)

abbrev pub is_waiting : List ShownField → ℕ → ℕ → Bool
is_waiting fields row column = list_any (λ field. lies_in field row column) fields

-- how many of the cells from this column on are drawn: up to the last one that isn't blank or is in such a field
abbrev pub drawn_cells : List ShownField → ℕ → ℕ → List ℕ → ℕ
drawn_cells fields row column [] = 0
drawn_cells fields row column (byte ∷ bytes) =
    if nat_lt 0 (drawn_cells fields row (column + 1) bytes) || not (byte == 32) || is_waiting fields row column
    then drawn_cells fields row (column + 1) bytes + 1 else 0

-- how letters become those of a field, or others
abbrev pub turn_order : Bool → Bool → List ℕ
turn_order true true = []
turn_order true false = usual_order
turn_order false true = reverse_order
turn_order false false = []

-- the cells from this column on, behind one that is in a field or isn't
abbrev pub cells_shown : Option CodePage → List ShownField → ℕ → Bool → ℕ → List ℕ → List ℕ
cells_shown page fields row marked column [] = turn_order marked false
cells_shown page fields row marked column (byte ∷ bytes) =
    turn_order marked (is_waiting fields row column) ++ shown_letter page byte
    ++ cells_shown page fields row (is_waiting fields row column) (column + 1) bytes

unfoldable pub row_shown : Option CodePage → List ShownField → ℕ → List ℕ → List ℕ
row_shown page fields row cells = cells_shown page fields row false 0 (take (drawn_cells fields row 0 cells) cells)

abbrev pub row_if_there : Option CodePage → List ShownField → ℕ → Option (List ℕ) → List ℕ
row_if_there page fields row None = []
row_if_there page fields row (Some cells) = row_shown page fields row cells

-- a line of the window with its row, where the window's first line has the first row that is drawn
unfoldable pub line_drawn : Drawing → ℕ → ℕ → List ℕ
line_drawn drawing first line =
    line_order line
    ++ row_if_there drawing.page drawing.fields.now (first + line) (slice_get (drop first drawing.rows.now) line)

-- so many lines from the window's first one on, the last one in front
abbrev pub lines_drawn : Drawing → ℕ → ℕ → List ℕ
lines_drawn drawing first zero = []
lines_drawn drawing first (suc line) = line_drawn drawing first line ++ lines_drawn drawing first line

-- the lines of the window, of which the 25 rows take at most that many, and nothing below them
unfoldable pub window_drawn : Drawing → ℕ → List ℕ
window_drawn drawing first =
    cursor_order (min drawing.window.rows 26) 0 ++ rest_order
    ++ lines_drawn drawing first (min drawing.window.rows 26)

-- ---- what stands below them

-- the line below the rows, or the window's last one where it has none below them
abbrev pub note_line : Window → ℕ
note_line window = min (window.rows - 1) 25

-- the note, cut so that it doesn't come to the end of its line
unfoldable pub note_drawn : Drawing → List ℕ
note_drawn drawing =
    if length drawing.note.now == 0 then [] else
    line_order (note_line drawing.window)
    ++ flat_map (shown_letter drawing.page) (take (drawing.window.columns - 1) drawing.note.now)

-- ---- all of it

-- the first row that is drawn: the cursor's line isn't the window's last one
abbrev pub first_drawn : Drawing → ℕ
first_drawn drawing = drawing.cursor.0 - (drawing.window.rows - 2)

-- rows that were sent out, those that stand, the note, and the cursor's row once more; no row goes on in the next line
unfoldable pub drawing_text : Drawing → List ℕ
drawing_text drawing =
    unwrapped_order ++ usual_order ++ 27 ∷ 91 ∷ 72 ∷ []
    ++ rows_scrolled drawing.page true drawing.sent.now
    ++ window_drawn drawing (first_drawn drawing)
    ++ note_drawn drawing
    ++ line_drawn drawing (first_drawn drawing) (drawing.cursor.0 - first_drawn drawing)
    ++ cursor_order (drawing.cursor.0 - first_drawn drawing) (min drawing.cursor.1 79)
    ++ wrapped_order

-- ---- for a terminal on which nothing is drawn

abbrev pub is_blank_cell : ℕ → Bool
is_blank_cell cell = cell == 32

-- a row without the blanks at its end
abbrev pub changed_line : Option CodePage → List ℕ → List ℕ
changed_line page row =
    flat_map (shown_letter page) (take (length row - suffix_len is_blank_cell row) row) ++ 10 ∷ []

-- a row is another one than that before; where there was none, one that isn't blank
abbrev pub has_changed : Option (List ℕ) → List ℕ → Bool
has_changed None row = list_any (λ cell. not (is_blank_cell cell)) row
has_changed (Some old) row = not (bytes_eq old row)

-- the rows that aren't as the rows before, one after another
abbrev pub changes_shown : Option CodePage → List (List ℕ) → List (List ℕ) → List ℕ
changes_shown page before [] = []
changes_shown page before (row ∷ rows) =
    (if has_changed (slice_get before 0) row then changed_line page row else [])
    ++ changes_shown page (drop 1 before) rows

-- ---- answers

-- what a cell shows under an answer: a byte of the answer, or a blank behind it, within the field
abbrev pub cell_under : ShownField → List ℕ → ℕ → ℕ → ℕ
cell_under field answer column cell =
    if nat_le field.column column && nat_lt (column - field.column) field.length
    then get_or answer (column - field.column) 32 else cell

-- the row is this one with the answer over it
abbrev pub IsAnswered : ShownField → List ℕ → List ℕ → List ℕ → Type 0
IsAnswered field answer row answered =
    (column : ℕ) → column < 80 → get_or answered column 32 ≡ cell_under field answer column (get_or row column 32)

-- the rows are those with the answer over the field's row, if there is such a row
abbrev pub AreAnswered : ShownField → List ℕ → List (List ℕ) → List (List ℕ) → Type 0
AreAnswered field answer rows answered =
    MatchOption (slice_get rows field.row) (answered ≡ rows)
    (λ row. (over : List ℕ) × IsAnswered field answer row over × (answered ≡ slice_set rows field.row over))
