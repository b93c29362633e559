-- A text printed is shown row by row.
use Rattle.std.proofs.Common.{◌≡◌, ℕ, ◌+◌, ◌<◌, ◌≤◌, List, [], ◌∷◌, ◌++◌, length, get_or, take, drop, min, refl, sym}
use Rattle.std.proofs.Common.{◌∙◌, ap, arith, append_assoc, length-append, length-take, length-drop, true, false, inl}
use Rattle.std.proofs.Common.{inr}
use Rattle.std.specs.Prelude.{map, nat_lt}
use Rattle.std.proofs.lemmas.List.{length-map, take_all, take_at, drop_at, drop-drop, get_or-set_same, set-set}
use Rattle.std.proofs.lemmas.List.{set-get_or, take-append-drop, append-nil}
use Rattle.std.proofs.lemmas.List.Elements.{All-get_or}
use Rattle.std.proofs.lemmas.Bool.{cases_lt}
use Rattle.std.proofs.lemmas.Bool.Decides.{nat_tests}
use Rattle.screen_lines.specs.declared.cursor.Cursor.{Cursor}
use Rattle.screen_lines.specs.declared.cursor.Cursor.TheVariants.{BeforeFirst, At}
use Rattle.screen_lines.specs.Roll.{Roll, blank_screen_row, row_with, shown_byte, shown_at, next_line_from}
use Rattle.screen_lines.specs.Roll.{on_next_line, byte_printed_from, text_printed}
use Rattle.screen_lines.specs.Shape.{IsRow, IsWhole}
use Rattle.screen_lines.proofs.Stepping.{shown_at-Steps}

-- a text that fits in a row
row_with-fits : (column : ℕ) (text row : List ℕ) → length row ≡ 80 → column + length text ≤ 80 →
    row_with column text row ≡ take column row ++ map shown_byte text ++ drop (column + length text) row
row_with-fits column text row wide fits =
    let len : length (take column row ++ map shown_byte text ++ drop (column + length text) row) ≤ 80 =
    simp (length-append, length-take, length-map, length-drop) (omega arith) in
    take_all 80 (take column row ++ map shown_byte text ++ drop (column + length text) row) len

row_with-nil : (column : ℕ) (row : List ℕ) → length row ≡ 80 → column ≤ 80 → row_with column [] row ≡ row
row_with-nil column row wide inside =
    let none : column + 0 ≡ column = omega arith in
    row_with-fits column [] row wide (omega arith) ∙ rw (none, append-nil) (take-append-drop column row)

-- what is behind the first byte
behind : (start row : List ℕ) (column n : ℕ) → length start ≡ column
    → drop (column + n) (start ++ drop column row) ≡ drop (column + n) row
behind start row column n len =
    sym (drop-drop n column (start ++ drop column row)) ∙ ap (drop n) (drop_at start (drop column row) column len)
    ∙ drop-drop n column row

-- one byte, then the rest
row_with-more : (column byte : ℕ) (text row : List ℕ) → length row ≡ 80 → column + (1 + length text) ≤ 80 →
    row_with (column + 1) text (row_with column (byte ∷ []) row) ≡ row_with column (byte ∷ text) row
row_with-more column byte text row wide fits =
    let start = take column row ++ shown_byte byte ∷ [] in
    let len : length start ≡ column + 1 =
    length-append (take column row) (shown_byte byte ∷ []) ∙ omega (arith, length-take column row) in
    let one : row_with column (byte ∷ []) row ≡ start ++ drop (column + 1) row =
    row_with-fits column (byte ∷ []) row wide (omega arith) in
    let whole : length (start ++ drop (column + 1) row) ≡ 80 =
    length-append start (drop (column + 1) row) ∙ omega (arith, length-drop (column + 1) row) in
    let two = row_with-fits (column + 1) text (start ++ drop (column + 1) row) whole (omega arith) in
    let front : take (column + 1) (start ++ drop (column + 1) row) ≡ start =
    take_at start (drop (column + 1) row) (column + 1) len in
    let back = behind start row (column + 1) (length text) len in
    let three = row_with-fits column (byte ∷ text) row wide (omega arith) in
    let places : column + 1 + length text ≡ column + length (byte ∷ text) = omega arith in
    rw (one, two, three, front, back, places) (simp append_assoc)

-- a byte shown, then the rest behind it
shown_at-more : (row column byte : ℕ) (text : List ℕ) (roll : Roll) → IsWhole roll → row < 25
    → column + (1 + length text) ≤ 80 →
    shown_at row (column + 1) text (shown_at row column (byte ∷ []) roll) ≡ shown_at row column (byte ∷ text) roll
shown_at-more row column byte text roll whole low fits =
    let seen = whole.seen in
    let at = roll.base + row in
    let old = get_or roll.rows at blank_screen_row in
    let is : IsRow old = All-get_or IsRow roll.rows at blank_screen_row (omega arith) whole.rows in
    let new = row_with column (byte ∷ []) old in
    let got = get_or-set_same roll.rows at new blank_screen_row (omega arith) in
    let more = row_with-more column byte text old is.wide fits in
    let twice = set-set roll.rows at new (row_with column (byte ∷ text) old) in
    let places : min (column + 1 + length text) 80 ≡ min (column + length (byte ∷ text)) 80 = omega arith in
    rw (got, more, twice, places) refl

shown_at-nil : (row column : ℕ) (roll : Roll) → IsWhole roll → row < 25 → column ≤ 80 → roll.cursor ≡ At row column
    → roll ≡ shown_at row column [] roll
shown_at-nil row column roll whole low inside here =
    let seen = whole.seen in
    let at = roll.base + row in
    let old = get_or roll.rows at blank_screen_row in
    let is : IsRow old = All-get_or IsRow roll.rows at blank_screen_row (omega arith) whole.rows in
    let same = row_with-nil column old is.wide inside in
    let put = set-get_or roll.rows at blank_screen_row in
    let place : min (column + 0) 80 ≡ column = omega arith in
    rw (same, put, place, ← here) refl

byte_fits : (byte : ℕ) (roll : Roll) (row column : ℕ) → roll.cursor ≡ At row column → column < 80 →
    byte_printed_from roll.cursor byte roll ≡ shown_at row column (byte ∷ []) roll
byte_fits byte roll row column here inside =
    let yes : nat_lt column 80 ≡ true = grind (arith, nat_tests) in
    rw here (rw yes refl)

-- the cursor of a whole screen
low_row : (roll : Roll) (row column : ℕ) → IsWhole roll → roll.cursor ≡ At row column → (row < 25) × (column ≤ 80)
low_row roll row column whole here = rw here at whole.cursor

-- what fits is shown as it stands
pub text_printed-fits : (text : List ℕ) (roll : Roll) (row column : ℕ) → IsWhole roll → roll.cursor ≡ At row column
    → column + length text ≤ 80 →
    text_printed text roll ≡ shown_at row column text roll
unfolding text_printed
text_printed-fits [] roll row column whole here fits =
    let place = low_row roll row column whole here in
    shown_at-nil row column roll whole place.0 place.1 here
text_printed-fits (byte ∷ text) roll row column whole here fits =
    let place = low_row roll row column whole here in
    let first : byte_printed_from roll.cursor byte roll ≡ shown_at row column (byte ∷ []) roll =
    byte_fits byte roll row column here (omega arith) in
    let next = shown_at row column (byte ∷ []) roll in
    let goes = (shown_at-Steps row column (byte ∷ []) roll place.0 place.1 whole).whole in
    let cursor : next.cursor ≡ At row (column + 1) =
    ap (λ (n : ℕ). At row n) (let m : min (column + 1) 80 ≡ column + 1 = omega arith in m) in
    ap (text_printed text) first ∙ text_printed-fits text next row (column + 1) goes cursor (omega arith)
    ∙ shown_at-more row column byte text roll whole place.0 (omega arith)

pub text_printed-append : (first rest : List ℕ) (roll : Roll) → text_printed (first ++ rest) roll
    ≡ text_printed rest (text_printed first roll)
unfolding text_printed
text_printed-append [] rest roll = refl
text_printed-append (byte ∷ first) rest roll = text_printed-append first rest (byte_printed_from roll.cursor byte roll)

-- a byte on a new line
byte_on_line : (byte : ℕ) (roll : Roll) (row : ℕ) → roll.cursor ≡ At row 0
    → byte_printed_from roll.cursor byte roll ≡ shown_at row 0 (byte ∷ []) roll
byte_on_line byte roll row here = byte_fits byte roll row 0 here (omega arith)

next_row : (row column : ℕ) (roll : Roll) → row < 25 → (next_line_from (At row column) roll).cursor
    ≡ At (min (row + 1) 24) 0
next_row row column roll low =
    elim (cases_lt (row + 1) 25) [
      | inl above ↦ (let yes : nat_lt (row + 1) 25 ≡ true = grind (arith, nat_tests) in
          let same : min (row + 1) 24 ≡ row + 1 = omega arith in
          rw (yes, same) refl)
      | inr last ↦ (let other : nat_lt (row + 1) 25 ≡ false = grind (arith, nat_tests) in
          let same : min (row + 1) 24 ≡ row = omega arith in
          rw (other, same) refl)
    ]

byte_wraps : (byte : ℕ) (roll : Roll) (row : ℕ) → row < 25 → roll.cursor ≡ At row 80 →
    byte_printed_from roll.cursor byte roll ≡ byte_printed_from (on_next_line roll).cursor byte (on_next_line roll)
unfolding on_next_line
byte_wraps byte roll row low here =
    let there : (on_next_line roll).cursor ≡ At (min (row + 1) 24) 0 =
    ap (λ (place : Cursor). (next_line_from place roll).cursor) here ∙ next_row row 80 roll low in
    ap (λ (place : Cursor). byte_printed_from place byte roll) here
    ∙ sym (byte_on_line byte (on_next_line roll) (min (row + 1) 24) there)

pub text_printed-wraps : (byte : ℕ) (text : List ℕ) (roll : Roll) (row : ℕ) → IsWhole roll → roll.cursor ≡ At row 80 →
    text_printed (byte ∷ text) roll ≡ text_printed (byte ∷ text) (on_next_line roll)
unfolding text_printed
text_printed-wraps byte text roll row whole here =
    ap (text_printed text) (byte_wraps byte roll row (low_row roll row 80 whole here).0 here)

byte_begins : (byte : ℕ) (roll : Roll) → roll.cursor ≡ BeforeFirst →
    byte_printed_from roll.cursor byte roll ≡ byte_printed_from (on_next_line roll).cursor byte (on_next_line roll)
unfolding on_next_line
byte_begins byte roll here =
    let there : (on_next_line roll).cursor ≡ At 0 0 =
    ap (λ (place : Cursor). (next_line_from place roll).cursor) here in
    ap (λ (place : Cursor). byte_printed_from place byte roll) here
    ∙ sym (byte_on_line byte (on_next_line roll) 0 there)

pub text_printed-begins : (byte : ℕ) (text : List ℕ) (roll : Roll) → roll.cursor ≡ BeforeFirst →
    text_printed (byte ∷ text) roll ≡ text_printed (byte ∷ text) (on_next_line roll)
unfolding text_printed
text_printed-begins byte text roll here = ap (text_printed text) (byte_begins byte roll here)
