-- Days of the calendar, and the blank date.
use Rattle.std.specs.Prelude.{pos, Option, Some, None}
use Rattle.std.specs.Int.{IsInRange}
use Rattle.jiff_core.specs.Calendar.{days_in_month}
use Rattle.calendar.specs.declared.day.DayParts.{DayParts}

-- the calendar has the day, in the years 1 to 9999
pub record IsDay (parts : DayParts) : Type 0 where
  pub year : IsInRange 1 9999 parts.year
  pub month : IsInRange 1 12 parts.month
  pub day : IsInRange 1 (days_in_month (pos parts.year) parts.month) parts.day

-- the blank date has no parts; other dates have a day's
abbrev pub HasDay : Option DayParts → Type 0
HasDay None = Unit {0}
HasDay (Some parts) = IsDay parts
