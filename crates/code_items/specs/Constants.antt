-- Constants that a code file can hold.
use Rattle.std.specs.Prelude.{ℕ, ◌^◌, Bool, true, false, ◌&&◌, nat_lt, nat_le, unsigned_abs, List, length, Option, Some}
use Rattle.std.specs.Prelude.{None}
use Rattle.std.specs.List.{list_all}
use Rattle.xvalue.specs.declared.value.Value.{Value}
use Rattle.xvalue.specs.declared.value.Value.TheVariants.{Number, Text, Date, Logical}
use Rattle.calendar.specs.declared.day.DayParts.{DayParts}
use Rattle.calendar.specs.Calendar.{is_day}
use Rattle.fixed_num.specs.Number.{Number as Decimal, asterisk, finite}

-- a number other than the asterisk value, in the range of numbers
abbrev pub is_decimal : Decimal → Bool
is_decimal asterisk = false
is_decimal (finite m d) = nat_lt (unsigned_abs m) (10 ^ 19) && nat_le d 15

-- the blank date, or a day of the calendar
abbrev pub is_date : Option DayParts → Bool
is_date None = true
is_date (Some parts) = is_day parts

abbrev pub is_byte : ℕ → Bool
is_byte byte = nat_lt byte 256

-- at most 254 bytes
abbrev pub is_text : List ℕ → Bool
is_text text = nat_le (length text) 254 && list_all is_byte text

unfoldable pub is_constant : Value → Bool
is_constant (Number number) = is_decimal number
is_constant (Date day) = is_date day
is_constant (Text text) = is_text text.items
is_constant (Logical truth) = true
