-- Days in their order, the days so many days on, and the names of weekdays and months.
use Rattle.std.specs.Prelude.{ℕ, zero, suc, ◌+◌, ◌-◌, ◌%◌, Bool, true, false, ◌&&◌, ◌==◌, nat_lt, nat_le, int_lt}
use Rattle.std.specs.Prelude.{if◌then◌else◌, ℤ, pos, negsuc, neg_ℤ, ◌-ℤ◌, List, [], ◌∷◌, Option, Some, None, codes}
use Rattle.std.specs.Prelude.{slice_index_or}
use Rattle.jiff_core.specs.Calendar.{days_in_month, days_from_civil, weekday_number}
use Rattle.fixed_num.specs.Number.{Number as Decimal, asterisk, finite}
use Rattle.fixed_num.specs.Rounding.{whole_part}
use Rattle.calendar.specs.declared.day.DayParts.{DayParts}

-- the number of a day: 0 for 1 January 1970, and one more for each day after
abbrev pub day_number : DayParts → ℤ
day_number parts = days_from_civil (pos parts.year) parts.month parts.day

abbrev pub day_at : ℕ → ℕ → ℕ → DayParts
day_at year month day = record { year = year; month = month; day = day }

-- how many days the day's month has
abbrev pub month_length : DayParts → ℕ
month_length parts = days_in_month (pos parts.year) parts.month

-- the day after; the last day of the year 9999 has none
abbrev pub next_day : DayParts → Option DayParts
next_day parts =
    if nat_lt parts.day (month_length parts) then Some (day_at parts.year parts.month (parts.day + 1))
    else (if nat_lt parts.month 12 then Some (day_at parts.year (parts.month + 1) 1)
    else (if nat_lt parts.year 9999 then Some (day_at (parts.year + 1) 1 1) else None))

-- the day before; the first day of the year 1 has none
abbrev pub previous_day : DayParts → Option DayParts
previous_day parts =
    if nat_lt 1 parts.day then Some (day_at parts.year parts.month (parts.day - 1))
    else (if nat_lt 1 parts.month
    then Some (day_at parts.year (parts.month - 1) (days_in_month (pos parts.year) (parts.month - 1)))
    else (if nat_lt 1 parts.year then Some (day_at (parts.year - 1) 12 31) else None))

-- one step from a day, and none from the blank date
abbrev pub stepped : (DayParts → Option DayParts) → Option DayParts → Option DayParts
stepped step None = None
stepped step (Some parts) = step parts

-- so many steps from a date
abbrev pub steps : (DayParts → Option DayParts) → ℕ → Option DayParts → Option DayParts
steps step zero date = date
steps step (suc n) date = stepped step (steps step n date)

-- the date so many days after, or before where the number is below zero; blank outside of the years 1 to 9999
unfoldable pub days_on : ℤ → Option DayParts → Option DayParts
days_on (pos n) date = steps next_day n date
days_on (negsuc n) date = steps previous_day (suc n) date

-- a date plus the whole part of a number; blank of the asterisk value
abbrev pub date_plus : Option DayParts → Decimal → Option DayParts
date_plus date asterisk = None
date_plus date (finite m d) = days_on (whole_part (finite m d)) date

-- a date minus the whole part of a number; blank of the asterisk value
abbrev pub date_minus : Option DayParts → Decimal → Option DayParts
date_minus date asterisk = None
date_minus date (finite m d) = days_on (neg_ℤ (whole_part (finite m d))) date

-- how many days the second date is before the first; the asterisk value where one is blank
abbrev pub days_between : Option DayParts → Option DayParts → Decimal
days_between (Some parts) (Some others) = finite (day_number parts -ℤ day_number others) 0
days_between (Some parts) None = asterisk
days_between None other = asterisk

abbrev pub same_date : Option DayParts → Option DayParts → Bool
same_date None None = true
same_date None (Some others) = false
same_date (Some parts) None = false
same_date (Some parts) (Some others) =
    (parts.year == others.year) && ((parts.month == others.month) && (parts.day == others.day))

-- the first date is before the second, the blank date before every day
abbrev pub is_earlier : Option DayParts → Option DayParts → Bool
is_earlier None None = false
is_earlier None (Some others) = true
is_earlier (Some parts) None = false
is_earlier (Some parts) (Some others) = int_lt (day_number parts) (day_number others)

abbrev pub day_of : Option DayParts → ℕ
day_of None = 0
day_of (Some parts) = parts.day

abbrev pub month_of : Option DayParts → ℕ
month_of None = 0
month_of (Some parts) = parts.month

abbrev pub year_of : Option DayParts → ℕ
year_of None = 0
year_of (Some parts) = parts.year

-- the day of the week, from 0 for Monday
abbrev pub weekday : DayParts → ℕ
weekday parts = weekday_number (day_number parts)

-- the day of the week from 1 for Sunday, and 0 of the blank date
abbrev pub weekday_of : Option DayParts → ℕ
weekday_of None = 0
weekday_of (Some parts) = (weekday parts + 1) % 7 + 1

abbrev pub weekday_names : List (List ℕ)
weekday_names =
    codes "Monday" ∷ codes "Tuesday" ∷ codes "Wednesday" ∷ codes "Thursday" ∷ codes "Friday" ∷ codes "Saturday"
    ∷ codes "Sunday" ∷ []

abbrev pub month_names : List (List ℕ)
month_names =
    codes "January" ∷ codes "February" ∷ codes "March" ∷ codes "April" ∷ codes "May" ∷ codes "June" ∷ codes "July"
    ∷ codes "August" ∷ codes "September" ∷ codes "October" ∷ codes "November" ∷ codes "December" ∷ []

-- the name of the day of the week, empty of the blank date
abbrev pub weekday_name_of : Option DayParts → List ℕ
weekday_name_of None = []
weekday_name_of (Some parts) = slice_index_or weekday_names (weekday parts) []

-- the name of the month, empty of the blank date
abbrev pub month_name_of : Option DayParts → List ℕ
month_name_of None = []
month_name_of (Some parts) = slice_index_or month_names (parts.month - 1) []

-- the calendar has the day, in the years 1 to 9999
abbrev pub is_day : DayParts → Bool
is_day parts =
    (nat_le 1 parts.year && nat_le parts.year 9999)
    && ((nat_le 1 parts.month && nat_le parts.month 12)
    && (nat_le 1 parts.day && nat_le parts.day (month_length parts)))

-- the day where the calendar has it, else the blank date
abbrev pub day_or_blank : DayParts → Option DayParts
day_or_blank parts = if is_day parts then Some parts else None
