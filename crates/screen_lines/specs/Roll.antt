-- The screen as a roll of rows: 25 rows of 80 columns are seen, and those above them were sent out.
use Rattle.std.specs.Prelude.{ℕ, ℤ, pos, negsuc, ◌+◌, ◌-◌, ◌||◌, ◌&&◌, Bool, List, [], ◌∷◌, ◌++◌, if◌then◌else◌, length}
use Rattle.std.specs.Prelude.{take, drop, get_or, set, replicate, map, min, nat_lt, nat_eq}
use Rattle.std.specs.List.{flat_map, list_all, suffix_len}
use Rattle.screen_lines.specs.declared.cursor.Cursor.{Cursor}
use Rattle.screen_lines.specs.declared.cursor.Cursor.TheVariants.{BeforeFirst, At}

-- all rows ever begun, how many of them were sent out, and the cursor, whose row counts from the first row seen
pub record Roll : Type 0 where
  pub rows : List (List ℕ)
  pub base : ℕ
  pub cursor : Cursor

unfoldable pub blank_screen_row : List ℕ
blank_screen_row = replicate 80 32

unfoldable pub blank_rows : List (List ℕ)
blank_rows = replicate 25 blank_screen_row

-- at the start
abbrev pub blank_roll : Roll
blank_roll = record { rows = blank_rows; base = 0; cursor = BeforeFirst }

-- the top row is sent out, all move up, and a blank row begins
abbrev pub scrolled : Roll → Roll
scrolled roll = record { rows = roll.rows ++ blank_screen_row ∷ []; base = roll.base + 1; cursor = roll.cursor }

-- column 0 of the next row, below the last row after a scroll
abbrev pub next_line_from : Cursor → Roll → Roll
next_line_from BeforeFirst roll = record roll { cursor = At 0 0 }
next_line_from (At row column) roll =
    if nat_lt (row + 1) 25
    then record roll { cursor = At (row + 1) 0 }
    else record (scrolled roll) { cursor = At row 0 }

unfoldable pub on_next_line : Roll → Roll
on_next_line roll = next_line_from roll.cursor roll

-- control bytes show as a blank
abbrev pub shown_byte : ℕ → ℕ
shown_byte byte = if nat_lt byte 32 || nat_eq byte 127 then 32 else byte

-- a row that shows a text from a column on, cut at column 80
abbrev pub row_with : ℕ → List ℕ → List ℕ → List ℕ
row_with column text row = take 80 (take column row ++ map shown_byte text ++ drop (column + length text) row)

-- a text shown from this row and column on, with the cursor behind it
abbrev pub shown_at : ℕ → ℕ → List ℕ → Roll → Roll
shown_at row column text roll =
    record {
      rows = set roll.rows (roll.base + row)
          (row_with column text (get_or roll.rows (roll.base + row) blank_screen_row));
      base = roll.base;
      cursor = At row (min (column + length text) 80);
    }

-- a byte printed at column 80, or with the cursor before the first row, first begins a new line
abbrev pub byte_printed_from : Cursor → ℕ → Roll → Roll
byte_printed_from BeforeFirst byte roll = shown_at 0 0 (byte ∷ []) (on_next_line roll)
byte_printed_from (At row column) byte roll =
    if nat_lt column 80
    then shown_at row column (byte ∷ []) roll
    else shown_at (min (row + 1) 24) 0 (byte ∷ []) (on_next_line roll)

-- a text printed, byte by byte
unfoldable pub text_printed : List ℕ → Roll → Roll
text_printed [] roll = roll
text_printed (byte ∷ text) roll = text_printed text (byte_printed_from roll.cursor byte roll)

-- a text shown from a row and column that lie on the screen; elsewhere nothing happens
unfoldable pub text_said : ℤ → ℤ → List ℕ → Roll → Roll
text_said (pos row) (pos column) text roll =
    if nat_lt row 25 && nat_lt column 80 then shown_at row column text roll else roll
text_said (pos row) (negsuc column) text roll = roll
text_said (negsuc row) column text roll = roll

-- a text shown one column after the cursor, where that is a column of the screen
abbrev pub text_said_on_from : Cursor → List ℕ → Roll → Roll
text_said_on_from BeforeFirst text roll = roll
text_said_on_from (At row column) text roll =
    if nat_lt (column + 1) 80 then shown_at row (column + 1) text roll else roll

unfoldable pub text_said_on : List ℕ → Roll → Roll
text_said_on text roll = text_said_on_from roll.cursor text roll

abbrev pub is_blank : ℕ → Bool
is_blank byte = nat_eq byte 32

abbrev pub is_blank_row : List ℕ → Bool
is_blank_row row = list_all is_blank row

-- a list without what passes the test at its end
abbrev pub without_end : {X : Type 0} → (X → Bool) → List X → List X
without_end passes items = take (length items - suffix_len passes items) items

-- all rows but the blank ones at the end, of which none before the base is dropped
abbrev pub rows_shown : Roll → List (List ℕ)
rows_shown roll = take roll.base roll.rows ++ without_end is_blank_row (drop roll.base roll.rows)

-- the rows shown are sent out, and 25 blank ones begin
unfoldable pub roll_cleared : Roll → Roll
roll_cleared roll =
    record {
      rows = rows_shown roll ++ blank_rows;
      base = length (rows_shown roll);
      cursor = BeforeFirst;
    }

-- a row as it is sent: no blanks at its end, and LF
abbrev pub line_sent : List ℕ → List ℕ
line_sent row = without_end is_blank row ++ 10 ∷ []

abbrev pub lines_sent : List (List ℕ) → List ℕ
lines_sent rows = flat_map line_sent rows

-- the bytes sent in all: the screen is cleared once more at the end
unfoldable pub roll_sent : Roll → List ℕ
roll_sent roll = let end = roll_cleared roll in lines_sent (take end.base end.rows)
