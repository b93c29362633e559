-- What a field's text stands for. The byte 32 is a blank, 84 and 116 are T and t, 89 and 121 are Y and y, 70 is F.
use Rattle.std.specs.Prelude.{◌≡◌, ℕ, min, ◌-◌, ◌≤◌, pos, Bool, ◌&&◌, ◌||◌, ◌==◌, nat_le, if◌then◌else◌, List, [], ◌∷◌}
use Rattle.std.specs.Prelude.{◌++◌, length, take, drop, replicate, slice_index, Option, Some, None}
use Rattle.std.specs.List.{list_all}
use Rattle.fixed_num.specs.Number.{Number as Decimal, asterisk, finite, IsInRange}
use Rattle.fixed_num.specs.Rounding.{rounded_at}
use Rattle.fixed_num.specs.Reading.{parsed, are_digits, with_digits}
use Rattle.fixed_num.specs.Text.{last_digits, text_of, printed_in}
use Rattle.calendar.specs.declared.day.DayParts.{DayParts}
use Rattle.xvalue.specs.declared.kind.Kind.{Kind}
use Rattle.xvalue.specs.declared.kind.Kind.TheVariants.{Number as OfNumber, Text as OfText, Date as OfDate}
use Rattle.xvalue.specs.declared.kind.Kind.TheVariants.{Logical as OfLogical}
use Rattle.xvalue.specs.declared.value.Value.{Value}
use Rattle.xvalue.specs.declared.value.Value.TheVariants.{Number, Text, Date, Logical}
use Rattle.calendar.specs.Days.{HasDay}
use Rattle.calendar.specs.Calendar.{day_at, day_or_blank}
use Rattle.dbf_file.specs.declared.field.Letter.{Letter}
use Rattle.dbf_file.specs.declared.field.Letter.TheVariants.{C, N, D, L}
use Rattle.dbf_file.specs.declared.field.Field.{Field}
use Rattle.dbf_file.specs.declared.stamp.Stamp.{Stamp}

-- the kind of a letter's values
abbrev pub kind_for : Letter → Kind
kind_for C = OfText
kind_for N = OfNumber
kind_for D = OfDate
kind_for L = OfLogical

-- ---- reading

abbrev pub is_all_blanks : List ℕ → Bool
is_all_blanks text = list_all (λ byte. byte == 32) text

-- a number's text; blanks alone are 0 with the field's decimals, 15 at most
abbrev pub number_in : ℕ → List ℕ → Decimal
number_in decimals text = if is_all_blanks text then finite (pos 0) (min decimals 15) else parsed text

-- four digits of the year, two of the month, two of the day; blank where that is no day
abbrev pub day_in : List ℕ → Option DayParts
day_in text =
    if are_digits text && length text == 8
    then day_or_blank (day_at (with_digits 0 (take 4 text)) (with_digits 0 (take 2 (drop 4 text)))
    (with_digits 0 (drop 6 text)))
    else None

abbrev pub is_yes : ℕ → Bool
is_yes byte = (byte == 84 || byte == 116) || (byte == 89 || byte == 121)

-- the value of a text in a field of this letter and these decimals; a text value has 254 bytes at most
abbrev pub value_by : Letter → ℕ → List ℕ → Value
value_by C decimals text = Text (record { items = take 254 text })
value_by N decimals text = Number (number_in decimals text)
value_by D decimals text = Date (day_in text)
value_by L decimals text = Logical (is_yes (slice_index text 0))

-- the value of a text in the field
unfoldable pub value_of : Field → List ℕ → Value
value_of f text = value_by f.letter f.decimals text

-- ---- writing

-- a text cut or padded with blanks
abbrev pub fitted_text : ℕ → List ℕ → List ℕ
fitted_text width text = take width text ++ replicate (width - length text) 32

abbrev pub stored_day : Option DayParts → List ℕ
stored_day None = replicate 8 32
stored_day (Some parts) = last_digits 4 parts.year ++ (last_digits 2 parts.month ++ last_digits 2 parts.day)

abbrev pub logical_text : Bool → List ℕ
logical_text truth = (if truth then 84 else 70) ∷ []

-- the text of a value in a field of this width and these decimals
-- numbers aside it is cut or padded
abbrev pub text_by : ℕ → ℕ → Value → List ℕ
text_by width decimals (Number number) = printed_in width (min decimals 15) number
text_by width decimals (Text text) = fitted_text width text.items
text_by width decimals (Date day) = fitted_text width (stored_day day)
text_by width decimals (Logical truth) = fitted_text width (logical_text truth)

-- the text of a value in the field
unfoldable pub text_for : Field → Value → List ℕ
text_for f value = text_by f.width f.decimals value

-- ---- what a text keeps of a value

-- a number whose text is no longer than the width
abbrev pub FitsWidth : ℕ → Decimal → Type 0
FitsWidth width asterisk = ⊥
FitsWidth width (finite m d) = length (text_of (finite m d)) ≤ width

-- The value fits the field: a number, rounded to the field's decimals, has room in it. A text is cut or padded in any
-- case, and takes 254 bytes at most, a day eight, a truth value one.
abbrev pub FitsField : Field → Value → Type 0
FitsField f (Number number) = IsInRange (rounded_at (pos (min f.decimals 15)) number)
    × FitsWidth f.width (rounded_at (pos (min f.decimals 15)) number)
FitsField f (Text text) = f.width ≤ 254
FitsField f (Date day) = HasDay day × (f.width ≡ 8)
FitsField f (Logical truth) = f.width ≡ 1

-- what is read of the value's text: a number rounded to the field's decimals, a text cut or padded, any other value
-- itself
abbrev pub kept_of : Field → Value → Value
kept_of f (Number number) = Number (rounded_at (pos (min f.decimals 15)) number)
kept_of f (Text text) = Text (record { items = fitted_text f.width text.items })
kept_of f (Date day) = Date day
kept_of f (Logical truth) = Logical truth

-- ---- stamps

-- the day's bytes: none where it is blank or not in the years 1900 to 2155
abbrev pub stamp_of : Option DayParts → Option Stamp
stamp_of None = None
stamp_of (Some parts) =
    if nat_le 1900 parts.year && nat_le parts.year 2155
    then Some (record { year = parts.year - 1900; month = parts.month; day = parts.day }) else None
