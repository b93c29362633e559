-- Each command keeps the screen whole and what was sent.
use Rattle.std.proofs.Common.{◌≡◌, ℕ, ◌+◌, ◌<◌, ◌≤◌, List, [], ◌∷◌, ◌++◌, length, get_or, take, drop, min, refl, sym}
use Rattle.std.proofs.Common.{◌∙◌, ap, arith, length-append, length-take, Bool, true, false}
use Rattle.std.specs.Prelude.{ℤ, pos, negsuc, if◌then◌else◌, nat_lt, ◌&&◌}
use Rattle.std.specs.List.{All}
use Rattle.std.proofs.lemmas.List.{length-set, take-append-le, take-set-le, take-take, take_at, append_assoc}
use Rattle.std.proofs.lemmas.List.Elements.{All-set, All-get_or, All-append, All-take, All-drop}
use Rattle.std.proofs.lemmas.Bool.{and_parts}
use borrow.Author.Tests.{ltb-true}
use Rattle.screen_lines.specs.declared.cursor.Cursor.{Cursor}
use Rattle.screen_lines.specs.declared.cursor.Cursor.TheVariants.{BeforeFirst, At}
use Rattle.screen_lines.specs.declared.commands.ScreenCommand.{ScreenCommand}
use Rattle.screen_lines.specs.declared.commands.ScreenCommand.TheVariants.{NewLine, Print, Say, SayOn, Clear}
use Rattle.screen_lines.specs.Roll.{Roll, blank_screen_row, blank_rows, blank_roll, row_with, shown_at, scrolled}
use Rattle.screen_lines.specs.Roll.{next_line_from, on_next_line, byte_printed_from, text_printed, text_said}
use Rattle.screen_lines.specs.Roll.{text_said_on_from, text_said_on, rows_shown, without_end, is_blank_row}
use Rattle.screen_lines.specs.Roll.{roll_cleared}
use Rattle.screen_lines.specs.State.{ScreenState, blank_screen}
use Rattle.screen_lines.specs.Commands.{obeyed, screen_after}
use Rattle.screen_lines.specs.Shape.{IsRow, IsOnScreen, IsWhole, KeepsSent}
use Rattle.screen_lines.proofs.Keeping.{IsRow-blank, IsRow-with, All-one, All-blank_rows, length-blank_rows}

-- a step keeps both
pub record Steps (old new : Roll) : Type 0 where
  pub whole : IsWhole new
  pub kept : KeepsSent old new

KeepsSent-same : (roll : Roll) → KeepsSent roll roll
KeepsSent-same roll = record { more = omega arith; same = refl }

pub KeepsSent-on : (old mid new : Roll) → KeepsSent old mid → KeepsSent mid new → KeepsSent old new
KeepsSent-on old mid new first next =
    let more = first.more in
    let later = next.more in
    record {
      more = omega arith;
      same = sym (take-take old.base mid.base new.rows first.more) ∙ ap (λ r. take old.base r) next.same
          ∙ take-take old.base mid.base mid.rows first.more ∙ first.same;
    }

stays : (roll : Roll) → IsWhole roll → Steps roll roll
stays roll whole = record { whole = whole; kept = KeepsSent-same roll }

on : (old mid new : Roll) → Steps old mid → Steps mid new → Steps old new
on old mid new first next = record { whole = next.whole; kept = KeepsSent-on old mid new first.kept next.kept }

either : (b : Bool) (old x y : Roll) → (b ≡ true → Steps old x) → (b ≡ false → Steps old y)
    → Steps old (if b then x else y)
either true old x y one two = one refl
either false old x y one two = two refl

-- only the cursor moves
moved : (roll : Roll) (place : Cursor) → IsWhole roll → IsOnScreen place → Steps roll (record roll { cursor = place })
moved roll place whole inside =
    record {
      whole = record { seen = whole.seen; rows = whole.rows; cursor = inside };
      kept = record { more = omega arith; same = refl };
    }

scrolls : (roll : Roll) (row : ℕ) → IsWhole roll → row < 25 → Steps roll (record (scrolled roll) { cursor = At row 0 })
scrolls roll row whole low =
    let seen = whole.seen in
    record {
      whole = record {
        seen = length-append roll.rows (blank_screen_row ∷ []) ∙ omega arith;
        rows = All-append IsRow roll.rows (blank_screen_row ∷ []) whole.rows (All-one blank_screen_row IsRow-blank);
        cursor = (low, omega arith);
      };
      kept = record {
        more = omega arith;
        same = take-append-le roll.base roll.rows (blank_screen_row ∷ [])
            (omega arith);
      };
    }

next_line_from-Steps : (place : Cursor) (roll : Roll) → IsOnScreen place → IsWhole roll
    → Steps roll (next_line_from place roll)
next_line_from-Steps BeforeFirst roll inside whole = moved roll (At 0 0) whole (omega arith, omega arith)
next_line_from-Steps (At row column) roll inside whole =
    either (nat_lt (row + 1) 25) roll _ _
    (λ is. moved roll (At (row + 1) 0) whole (ltb-true (row + 1) 25 is, omega arith))
    (λ _. scrolls roll row whole inside.0)

pub next_line-Steps : (roll : Roll) → IsWhole roll → Steps roll (on_next_line roll)
unfolding on_next_line
next_line-Steps roll whole = next_line_from-Steps roll.cursor roll whole.cursor whole

pub shown_at-Steps : (row column : ℕ) (text : List ℕ) (roll : Roll) → row < 25 → column ≤ 80 → IsWhole roll
    → Steps roll (shown_at row column text roll)
shown_at-Steps row column text roll low inside whole =
    let seen = whole.seen in
    let old = get_or roll.rows (roll.base + row) blank_screen_row in
    let is : IsRow old = All-get_or IsRow roll.rows (roll.base + row) blank_screen_row (omega arith) whole.rows in
    record {
      whole = record {
        seen = length-set roll.rows (roll.base + row) (row_with column text old) ∙ whole.seen;
        rows = All-set IsRow roll.rows (roll.base + row) (row_with column text old)
            (IsRow-with column text old inside is) whole.rows;
        cursor = (low, omega arith);
      };
      kept = record {
        more = omega arith;
        same = take-set-le roll.base roll.rows (roll.base + row) (row_with column text old) (omega arith);
      };
    }

byte_printed-Steps : (place : Cursor) (byte : ℕ) (roll : Roll) → IsOnScreen place → IsWhole roll
    → Steps roll (byte_printed_from place byte roll)
byte_printed-Steps BeforeFirst byte roll inside whole =
    let ready = next_line-Steps roll whole in
    on roll (on_next_line roll) _ ready
    (shown_at-Steps 0 0 (byte ∷ []) (on_next_line roll) (omega arith) (omega arith) ready.whole)
byte_printed-Steps (At row column) byte roll inside whole =
    let ready = next_line-Steps roll whole in
    either (nat_lt column 80) roll _ _
    (λ is. shown_at-Steps row column (byte ∷ []) roll inside.0 inside.1 whole)
    (λ _. on roll (on_next_line roll) _ ready
    (shown_at-Steps (min (row + 1) 24) 0 (byte ∷ []) (on_next_line roll) (omega arith) (omega arith) ready.whole))

text_printed-Steps : (text : List ℕ) (roll : Roll) → IsWhole roll → Steps roll (text_printed text roll)
unfolding text_printed
text_printed-Steps [] roll whole = stays roll whole
text_printed-Steps (byte ∷ text) roll whole =
    let first = byte_printed-Steps roll.cursor byte roll whole.cursor whole in
    on roll _ _ first (text_printed-Steps text (byte_printed_from roll.cursor byte roll) first.whole)

text_said-Steps : (row column : ℤ) (text : List ℕ) (roll : Roll) → IsWhole roll
    → Steps roll (text_said row column text roll)
unfolding text_said
text_said-Steps (pos row) (pos column) text roll whole =
    either (nat_lt row 25 && nat_lt column 80) roll _ _
    (λ is. let both = and_parts (nat_lt row 25) (nat_lt column 80) is in
    shown_at-Steps row column text roll (ltb-true row 25 both.0) (let c = ltb-true column 80 both.1 in omega arith)
    whole)
    (λ _. stays roll whole)
text_said-Steps (pos row) (negsuc column) text roll whole = stays roll whole
text_said-Steps (negsuc row) column text roll whole = stays roll whole

text_said_on-Steps : (place : Cursor) (text : List ℕ) (roll : Roll) → IsOnScreen place → IsWhole roll
    → Steps roll (text_said_on_from place text roll)
text_said_on-Steps BeforeFirst text roll inside whole = stays roll whole
text_said_on-Steps (At row column) text roll inside whole =
    either (nat_lt (column + 1) 80) roll _ _
    (λ is. shown_at-Steps row (column + 1) text roll inside.0 (let c = ltb-true (column + 1) 80 is in omega arith)
    whole)
    (λ _. stays roll whole)

pub cleared-Steps : (roll : Roll) → IsWhole roll → Steps roll (roll_cleared roll)
unfolding roll_cleared
cleared-Steps roll whole =
    let seen = whole.seen in
    let front : length (take roll.base roll.rows) ≡ roll.base = length-take roll.base roll.rows ∙ omega arith in
    let tail = without_end is_blank_row (drop roll.base roll.rows) in
    let all : All IsRow (rows_shown roll) =
    All-append IsRow (take roll.base roll.rows) tail (All-take IsRow roll.base roll.rows whole.rows)
    (All-take IsRow _ (drop roll.base roll.rows) (All-drop IsRow roll.base roll.rows whole.rows)) in
    record {
      whole = record {
        seen = length-append (rows_shown roll) blank_rows ∙ ap (λ (n : ℕ). length (rows_shown roll) + n)
            length-blank_rows;
        rows = All-append IsRow (rows_shown roll) blank_rows all All-blank_rows;
        cursor = tt;
      };
      kept = record {
        more = omega (arith, length-append (take roll.base roll.rows) tail);
        same = ap (λ r. take roll.base r) (append_assoc (take roll.base roll.rows) tail blank_rows)
            ∙ take_at (take roll.base roll.rows) (tail ++ blank_rows) roll.base front;
      };
    }

pub obeyed-Steps : (command : ScreenCommand) (screen : ScreenState) → IsWhole screen.roll
    → Steps screen.roll (obeyed command screen).roll
unfolding text_said_on
obeyed-Steps NewLine screen whole = next_line-Steps screen.roll whole
obeyed-Steps (Print text) screen whole = text_printed-Steps text.items screen.roll whole
obeyed-Steps (Say row column text) screen whole = text_said-Steps row column text.items screen.roll whole
obeyed-Steps (SayOn text) screen whole = text_said_on-Steps screen.roll.cursor text.items screen.roll whole.cursor whole
obeyed-Steps Clear screen whole = cleared-Steps screen.roll whole

pub after-Steps : (commands : List ScreenCommand) (screen : ScreenState) → IsWhole screen.roll
    → Steps screen.roll (screen_after commands screen).roll
after-Steps [] screen whole = stays screen.roll whole
after-Steps (command ∷ commands) screen whole =
    let first = obeyed-Steps command screen whole in
    on screen.roll _ _ first (after-Steps commands (obeyed command screen) first.whole)

pub IsWhole-blank : IsWhole blank_roll
IsWhole-blank = record { seen = length-blank_rows; rows = All-blank_rows; cursor = tt }

-- the laws
pub IsWhole-after : (commands : List ScreenCommand) → IsWhole (screen_after commands blank_screen).roll
IsWhole-after commands = (after-Steps commands blank_screen IsWhole-blank).whole

after-append : (first more : List ScreenCommand) (screen : ScreenState)
    → screen_after (first ++ more) screen ≡ screen_after more (screen_after first screen)
after-append [] more screen = refl
after-append (command ∷ first) more screen = after-append first more (obeyed command screen)

pub KeepsSent-after : (first more : List ScreenCommand) → KeepsSent (screen_after first blank_screen).roll
    (screen_after (first ++ more) blank_screen).roll
KeepsSent-after first more =
    rw (after-append first more blank_screen)
    ((after-Steps more (screen_after first blank_screen) (IsWhole-after first)).kept)
