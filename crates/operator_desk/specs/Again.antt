-- Which lines a person at a terminal is asked for again.
use Rattle.std.specs.Prelude.{◌≡◌, ◌&&◌, ◌||◌, ◌==◌, not, nat_le, nat_lt, min, ℕ, Bool, List, Option, Some, None}
use Rattle.std.specs.Prelude.{if◌then◌else◌, drop, length, take, ⊤}
use Rattle.std.specs.List.{list_all, list_any}
use Rattle.fixed_num.specs.Reading.{parsed}
use Rattle.fixed_num.specs.Text.{printed_in}
use Rattle.operating.specs.declared.operator.Answer.{Answer}
use Rattle.operating.specs.declared.operator.Answer.TheVariants.{Line, End}
use Rattle.operating.specs.declared.operator.FieldSize.{FieldSize}
use Rattle.operator_desk.specs.Asked.{no_value_in}
use Rattle.operator_desk.specs.declared.judging.Again.{Again}
use Rattle.operator_desk.specs.declared.judging.Again.TheVariants as again
use Rattle.operator_desk.specs.declared.judging.Holds.{Holds}
use Rattle.operator_desk.specs.declared.judging.Holds.TheVariants.{Unknown, Text, Number}
use Rattle.operator_desk.specs.declared.judging.NoValue.{NoValue}
use Rattle.operator_desk.specs.declared.judging.Wanted.{Wanted}
use Rattle.text_lines.specs.Lines.{without_return}
use Rattle.terminal_screen.specs.Printable.{is_control}

-- ---- what is wrong with a line

abbrev pub has_control : List ℕ → Bool
has_control line = list_any is_control line

abbrev pub has_letter_above : List ℕ → Bool
has_letter_above line = list_any (λ byte. nat_le 128 byte) line

-- a text of this length takes less of the line than all but the blanks at its end
abbrev pub is_cut_off : ℕ → List ℕ → Bool
is_cut_off size line = list_any (λ byte. not (byte == 32)) (drop size line)

abbrev pub is_asterisks : List ℕ → Bool
is_asterisks text = list_all (λ byte. byte == 42) text

-- what REPLACE stores of the line's number in the field is asterisks
abbrev pub is_too_large : FieldSize → List ℕ → Bool
is_too_large size line = not (length line == 0)
    && (nat_le size.width 19 && is_asterisks (printed_in size.width (min size.decimals 15) (parsed line)))

-- ---- why it is asked for again

-- the value takes less than the line
abbrev pub lost_by : Holds → List ℕ → Option Again
lost_by Unknown line = None
lost_by (Text size) line = if is_cut_off size line then Some again.TooLong else None
lost_by (Number size) line = if is_too_large size (take 254 line) then Some again.TooLarge else None

abbrev pub unspelled_or : Option NoValue → Option Again → Option Again
unspelled_or (Some bad) lost = Some (again.NoValue bad)
unspelled_or None lost = lost

-- a person is asked for a line again that holds a control character, leaves the old value, or is lost in part
abbrev pub asked_again : Wanted → List ℕ → Option Again
asked_again wanted line =
    if has_control line then Some again.Control
    else unspelled_or (no_value_in wanted.kind (take 254 line)) (lost_by wanted.holds line)

-- ---- answers

-- an answer is this line
abbrev pub IsTypedLine : List ℕ → Answer → Type 0
IsTypedLine line (Line answer) = answer.items ≡ line
IsTypedLine line End = ⊥

-- a line that a person isn't asked for again, or the end of the input
abbrev pub IsAnswerTaken : Wanted → Answer → Type 0
IsAnswerTaken wanted (Line line) = asked_again wanted (without_return line.items) ≡ None
IsAnswerTaken wanted End = ⊤
