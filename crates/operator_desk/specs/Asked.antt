-- What is known of the places of a code and of the line that is wanted, and which answers leave the old value.
use Rattle.std.specs.Prelude.{◌≡◌, ◌⊎◌, ◌-◌, ◌==◌, ◌||◌, not, nat_lt, ℕ, List, [], ◌∷◌, Bool, true, false, Option, Some}
use Rattle.std.specs.Prelude.{MatchOption, None, if◌then◌else◌, is_none, is_some, length, option_and_then}
use Rattle.std.specs.Prelude.{option_map, slice_get, string_bytes}
use Rattle.calendar.specs.DateTexts.{date_read}
use Rattle.code_items.specs.declared.instr.Instr.{Instr}
use Rattle.code_items.specs.declared.instr.Instr.TheVariants as instr
use Rattle.code_items.specs.declared.instr.ScreenInstr.{ScreenInstr}
use Rattle.code_items.specs.declared.instr.ScreenInstr.TheVariants as screen
use Rattle.fixed_num.specs.Number.{Number as Decimal, asterisk, finite}
use Rattle.fixed_num.specs.Reading.{parsed}
use Rattle.operating.specs.declared.operator.FieldSize.{FieldSize}
use Rattle.operator_desk.specs.declared.judging.NoValue.{NoValue}
use Rattle.operator_desk.specs.declared.judging.NoValue.TheVariants as unspelled
use Rattle.operator_desk.specs.declared.judging.Holds.{Holds}
use Rattle.operator_desk.specs.declared.judging.Holds.TheVariants as holds
use Rattle.operator_desk.specs.declared.gets.Drawing.{Drawing}
use Rattle.operator_desk.specs.declared.gets.Drawing.TheVariants as drawing
use Rattle.operator_desk.specs.declared.gets.Gets.{Gets}
use Rattle.operator_desk.specs.declared.gets.Laid.{Laid}
use Rattle.operator_desk.specs.declared.gets.Place.{Place}
use Rattle.operator_desk.specs.declared.gets.Taker.{Taker}
use Rattle.operator_desk.specs.declared.gets.Taker.TheVariants as taker
use Rattle.operator_desk.specs.declared.screens.Screens.{Screens}
use Rattle.terminal_screen.specs.Orders.{AreAnswered}
use Rattle.terminal_screen.specs.declared.fields.ShownField.{ShownField}
use Rattle.calendar.specs.declared.day.DayParts.{DayParts}
use Rattle.xvalue.specs.Answers.{date_answered, number_answered, says_no, says_yes, text_answered, truth_answered}
use Rattle.xvalue.specs.declared.kind.Kind.{Kind}
use Rattle.xvalue.specs.declared.kind.Kind.TheVariants as kinds

-- ---- answers

abbrev pub is_no_number : Decimal → Bool
is_no_number asterisk = true
is_no_number (finite digits decimals) = false

-- the line begins with none of T, Y, F and N
abbrev pub is_no_truth : List ℕ → Bool
is_no_truth [] = false
is_no_truth (letter ∷ others) = not (says_yes letter || says_no letter)

abbrev pub is_no_value : Kind → List ℕ → Bool
is_no_value kinds.Number line = is_no_number (parsed line)
is_no_value kinds.Date line = is_none (date_read line)
is_no_value kinds.Logical line = is_no_truth line
is_no_value kinds.Text line = false

abbrev pub is_no_answer : Option Kind → List ℕ → Bool
is_no_answer None line = false
is_no_answer (Some wanted) line = is_no_value wanted line

-- whether a line that isn't empty leaves the old value: it spells no value of the kind that is wanted
abbrev pub leaves_old : Option Kind → List ℕ → Bool
leaves_old wanted line = if length line == 0 then false else is_no_answer wanted line

-- what such a line doesn't spell
abbrev pub no_value_of : Kind → Option NoValue
no_value_of kinds.Number = Some unspelled.Number
no_value_of kinds.Date = Some unspelled.Date
no_value_of kinds.Logical = Some unspelled.Truth
no_value_of kinds.Text = None

abbrev pub no_value_in : Option Kind → List ℕ → Option NoValue
no_value_in wanted line = if leaves_old wanted line then option_and_then no_value_of wanted else None

-- a run keeps each old value of the kind
abbrev pub KeepsOld : Kind → List ℕ → Type 0
KeepsOld kinds.Number line = (old : Decimal) → number_answered old line ≡ old
KeepsOld kinds.Date line = (old : Option DayParts) → date_answered old line ≡ old
KeepsOld kinds.Logical line = (old : Bool) → truth_answered old line ≡ old
KeepsOld kinds.Text line = (old : List ℕ) → text_answered old line ≡ old

-- a run takes the line: of the old value nothing is left but a text's length
abbrev pub GivesNew : Kind → List ℕ → Type 0
GivesNew kinds.Number line = (old other : Decimal) → number_answered old line ≡ number_answered other line
GivesNew kinds.Date line = (old other : Option DayParts) → date_answered old line ≡ date_answered other line
GivesNew kinds.Logical line = (old other : Bool) → truth_answered old line ≡ truth_answered other line
GivesNew kinds.Text line =
    (old other : List ℕ) → length old ≡ length other → text_answered old line ≡ text_answered other line

-- it is told that the old value stays, and it does; or it isn't told, and the line is empty or is taken
abbrev pub IsToldOf : Bool → Kind → List ℕ → Type 0
IsToldOf true wanted line = KeepsOld wanted line
IsToldOf false wanted line = (line ≡ []) ⊎ GivesNew wanted line

-- ---- places

-- what an instruction takes a line for, and what it draws where the cursor doesn't stand
abbrev pub screen_takes : ScreenInstr → Taker
screen_takes (screen.Input wanted) = taker.Value wanted
screen_takes screen.Line = taker.Line
screen_takes _ = taker.Nothing

abbrev pub taken_for : Instr → Taker
taken_for (instr.Screen i) = screen_takes i
taken_for _ = taker.Nothing

abbrev pub screen_draws : ScreenInstr → Drawing
screen_draws (screen.Say i) = drawing.Value
screen_draws (screen.SayOn i) = drawing.Value
screen_draws screen.Clear = drawing.Blank
screen_draws _ = drawing.Nothing

abbrev pub drawn_there : Instr → Drawing
drawn_there (instr.Screen i) = screen_draws i
drawn_there _ = drawing.Nothing

abbrev pub does_take : Taker → Bool
does_take taker.Nothing = false
does_take _ = true

abbrev pub does_draw : Drawing → Bool
does_draw drawing.Nothing = false
does_draw _ = true

-- whether the run is looked at before an instruction
abbrev pub is_looked_at : Instr → Bool
is_looked_at i = does_take (taken_for i) || does_draw (drawn_there i)

-- what is known of the places of the code, in their order
abbrev pub place_known : Instr → Place
place_known i = record { takes = taken_for i; draws = drawn_there i }

abbrev pub places_known : Gets → List Place
places_known gets = gets.places.items

abbrev pub takes_if_known : Option Place → Bool
takes_if_known None = false
takes_if_known (Some place) = does_take place.takes

abbrev pub kind_by : Taker → Option Kind
kind_by taker.Nothing = None
kind_by taker.Line = None
kind_by (taker.Value wanted) = Some wanted

abbrev pub kind_if_known : Option Place → Option Kind
kind_if_known None = None
kind_if_known (Some place) = kind_by place.takes

-- whether a line is taken at a place, and for which kind of value
abbrev pub takes_line_at : Gets → ℕ → Bool
takes_line_at gets place = takes_if_known (slice_get (places_known gets) place)

abbrev pub kind_wanted_at : Gets → ℕ → Option Kind
kind_wanted_at gets place = kind_if_known (slice_get (places_known gets) place)

-- how much of an answer a field takes: a text of its width, or a number that fits it
abbrev pub held_by_field : Option Kind → FieldSize → Holds
held_by_field (Some kinds.Number) size = holds.Number size
held_by_field (Some kinds.Text) size = holds.Text size.width
held_by_field _ size = holds.Unknown

-- the same is known of the code, and the same line is wanted at the same place of the screen
abbrev pub AsksTheSame : Gets → Gets → Type 0
AsksTheSame before after =
    after ≡ record before { shown = after.shown; answers = after.answers; sent = after.sent }

-- ---- answers that are laid over the rows

-- how many rows were sent out
abbrev pub rows_gone : Gets → ℕ
rows_gone gets = gets.sent.rows

-- a field whose row is counted from the first row that was ever sent out, on the screen; none where its row was sent
-- out
abbrev pub field_on_screen : ℕ → ShownField → Option ShownField
field_on_screen sent field =
    if nat_lt field.row sent then None
    else Some (record { row = field.row - sent; column = field.column; length = field.length })

-- the rows are those before with the answer over them, if its field is on the screen
abbrev pub AnswerLies : ℕ → Laid → List (List ℕ) → List (List ℕ) → Type 0
AnswerLies sent laid before after =
    MatchOption (field_on_screen sent laid.field) (after ≡ before)
    (λ field. AreAnswered field laid.text.items before after)

-- and with all of these answers, in their order
abbrev pub AnswersLie : ℕ → List Laid → List (List ℕ) → List (List ℕ) → Type 0
AnswersLie sent [] before after = after ≡ before
AnswersLie sent (answer ∷ laid) before after =
    (between : List (List ℕ)) × AnswerLies sent answer before between × AnswersLie sent laid between after

abbrev pub answers_laid : Gets → List Laid
answers_laid gets = gets.answers.items

-- ---- what is shown, and who types

-- the newest note: the line below the drawing, or else what is said of a line that was cut off
abbrev pub newest_note : List ℕ → List ℕ → List ℕ
newest_note note cut = if length note == 0 then cut else note

-- the name of the file for screens, and whether it was made
abbrev pub screens_file : Screens → Option (List ℕ)
screens_file screens = option_map string_bytes screens.name

abbrev pub are_kept : Screens → Bool
are_kept screens = is_some screens.file
