-- Values as the screen shows them. The byte 32 is a blank, 47 is `/`.
use Rattle.std.specs.Prelude.{ℕ, ◌-◌, List, ◌∷◌, ◌++◌, Bool, true, false, Option, Some, None, length, replicate, codes}
use Rattle.fixed_num.specs.Number.{Number as Decimal}
use Rattle.fixed_num.specs.Text.{text_of, last_digits}
use Rattle.calendar.specs.declared.day.DayParts.{DayParts}
use Rattle.xvalue.specs.declared.settings.Settings.{Settings}
use Rattle.xvalue.specs.declared.value.Value.{Value}
use Rattle.xvalue.specs.declared.value.Value.TheVariants.{Number, Text, Date, Logical}

abbrev pub shown_logical : Bool → List ℕ
shown_logical true = codes ".T."
shown_logical false = codes ".F."

-- a text with blanks in front that make it ten bytes long, where it isn't longer
abbrev pub in_ten_places : List ℕ → List ℕ
in_ten_places text = replicate (10 - length text) 32 ++ text

unfoldable pub shown_number : Decimal → List ℕ
shown_number number = in_ten_places (text_of number)

-- a year's four digits with CENTURY on, else its last two
abbrev pub year_places : Bool → ℕ
year_places true = 4
year_places false = 2

-- the month, the day and the year, with `/` between them
abbrev pub day_text : List ℕ → List ℕ → List ℕ → List ℕ
day_text month day year = month ++ 47 ∷ day ++ 47 ∷ year

-- a day's two, two, and two or four digits; the blank date has blanks in their places
unfoldable pub shown_day : Settings → Option DayParts → List ℕ
shown_day settings None = day_text (replicate 2 32) (replicate 2 32) (replicate (year_places settings.century) 32)
shown_day settings (Some parts) =
    day_text (last_digits 2 parts.month) (last_digits 2 parts.day)
    (last_digits (year_places settings.century) parts.year)

-- a value's bytes on the screen under the settings
abbrev pub shown : Settings → Value → List ℕ
shown settings (Number number) = shown_number number
shown settings (Text text) = text.items
shown settings (Date day) = shown_day settings day
shown settings (Logical truth) = shown_logical truth
