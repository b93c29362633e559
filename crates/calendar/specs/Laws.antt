-- What the laws say of days.
use Rattle.std.specs.Prelude.{◌≡◌, ◌<◌, ℤ, ◌<ℤ◌, ◌⊎◌, Option, Some, None}
use Rattle.calendar.specs.declared.day.DayParts.{DayParts}
use Rattle.calendar.specs.Days.{IsDay}
use Rattle.calendar.specs.Calendar.{day_number, day_at}

-- the date is the day with the number, or blank where the number is less than that of 1 January 1 or greater than that
-- of 31 December 9999
abbrev pub LiesThere : Option DayParts → ℤ → Type 0
LiesThere None number = (number <ℤ day_number (day_at 1 1 1)) ⊎ (day_number (day_at 9999 12 31) <ℤ number)
LiesThere (Some parts) number = IsDay parts × (day_number parts ≡ number)

-- the first day is sooner in the calendar: by its year, in one year by its month, in one month by its day
abbrev pub IsSooner : DayParts → DayParts → Type 0
IsSooner p q = (p.year < q.year) ⊎ ((p.year ≡ q.year) × ((p.month < q.month) ⊎ ((p.month ≡ q.month) × (p.day < q.day))))
