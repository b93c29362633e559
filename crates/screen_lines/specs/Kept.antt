-- How the 25 rows seen and the bytes sent stand for the roll of all rows. What the calls promise of the bytes at the
-- end doesn't rest on it: that is said by the roll alone.
use Rattle.std.specs.Prelude.{◌≡◌, ℕ, ◌+◌, ◌-◌, ◌*◌, ◌/◌, List, [], ◌∷◌, ◌++◌, length, take, if◌then◌else◌, nat_eq}
use Rattle.std.specs.Prelude.{vec_len, vec_capacity}
use Rattle.std.specs.List.{All}
use Rattle.screen_lines.specs.Roll.{Roll, blank_screen_row, lines_sent}
use Rattle.screen_lines.specs.Shape.{IsRow, IsOnScreen}
use Rattle.screen_lines.specs.declared.cursor.Cursor.{Cursor}
use Rattle.screen_lines.specs.declared.cursor.Cursor.TheVariants.{BeforeFirst, At}
use Rattle.screen_lines.specs.declared.display.Display.{Display}

-- the row of which this is sent
abbrev pub padded_row : List ℕ → List ℕ
padded_row text = take 80 (text ++ blank_screen_row)

-- the rows of which these bytes are the lines; the first line's bytes so far stand apart
abbrev pub rows_from : List ℕ → List ℕ → List (List ℕ)
rows_from line [] = []
rows_from line (byte ∷ bytes) =
    if nat_eq byte 10 then padded_row line ∷ rows_from [] bytes else rows_from (line ++ byte ∷ []) bytes

abbrev pub rows_sent : List ℕ → List (List ℕ)
rows_sent bytes = rows_from [] bytes

-- the roll of which these bytes were sent and these rows are seen
abbrev pub roll_with : List ℕ → List (List ℕ) → Cursor → Roll
roll_with sent seen cursor = record { rows = rows_sent sent ++ seen; base = length (rows_sent sent); cursor = cursor }

abbrev pub roll_of : Display → Roll
roll_of display = roll_with display.sent.items display.rows.items display.cursor

-- the bytes are whole lines of rows
pub record AreLines (bytes : List ℕ) : Type 0 where
  pub whole : bytes ≡ lines_sent (rows_sent bytes)
  pub rows : All IsRow (rows_sent bytes)

pub record Keeps (sent : List ℕ) (seen : List (List ℕ)) (place : Cursor) : Type 0 where
  pub count : length seen ≡ 25
  pub rows : All IsRow seen
  pub cursor : IsOnScreen place
  pub lines : AreLines sent

abbrev pub IsKeptDisplay : Display → Type 0
IsKeptDisplay display = Keeps display.sent.items display.rows.items display.cursor

-- how many more rows, of 80 bytes and LF at most, can be sent without memory
abbrev pub lines_free : Display → ℕ
lines_free display = (vec_capacity display.sent - vec_len display.sent) / 81

abbrev pub columns_free : Cursor → ℕ
columns_free BeforeFirst = 0
columns_free (At row column) = 80 - column

-- how many more bytes can be printed without memory
abbrev pub cells_free : Display → ℕ
cells_free display = columns_free display.cursor + 80 * lines_free display
