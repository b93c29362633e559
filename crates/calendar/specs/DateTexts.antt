-- Dates that texts spell. The byte 47 is `/`.
use Rattle.std.specs.Prelude.{ℕ, ◌+◌, Bool, ◌&&◌, List, [], ◌∷◌, length, ◌==◌, nat_le, if◌then◌else◌, Option, Some}
use Rattle.std.specs.Prelude.{None}
use Rattle.fixed_num.specs.Reading.{trimmed, are_digits, with_digits}
use Rattle.calendar.specs.declared.day.DayParts.{DayParts}
use Rattle.calendar.specs.Calendar.{day_at, day_or_blank}

-- what stands before the first `/`, the whole text where there is none
abbrev pub before_slash : List ℕ → List ℕ
before_slash [] = []
before_slash (c ∷ cs) = if c == 47 then [] else c ∷ before_slash cs

-- what stands after the first `/`
abbrev pub after_slash : List ℕ → List ℕ
after_slash [] = []
after_slash (c ∷ cs) = if c == 47 then cs else after_slash cs

-- one or two digits
abbrev pub is_short : List ℕ → Bool
is_short cs = are_digits cs && (nat_le 1 (length cs) && nat_le (length cs) 2)

-- the year that digits spell: two are a year of 1900 to 1999
abbrev pub year_spelled : List ℕ → Option ℕ
year_spelled cs =
    if are_digits cs then
    (if length cs == 2 then Some (1900 + with_digits 0 cs)
    else (if length cs == 4 then Some (with_digits 0 cs) else None))
    else None

-- the day in a year, blank without one
abbrev pub in_year : ℕ → ℕ → Option ℕ → Option DayParts
in_year month day None = None
in_year month day (Some year) = day_or_blank (day_at year month day)

-- the date of the three parts between the slashes
abbrev pub date_spelled : List ℕ → List ℕ → List ℕ → Option DayParts
date_spelled month day year =
    if is_short month && is_short day then in_year (with_digits 0 month) (with_digits 0 day) (year_spelled year)
    else None

-- month, day and year of a text with its blanks at both ends taken off
abbrev pub parts_spelled : List ℕ → Option DayParts
parts_spelled cs = date_spelled (before_slash cs) (before_slash (after_slash cs)) (after_slash (after_slash cs))

-- the date that a text spells: one or two digits for the month and for the day, two or four for the year
abbrev pub date_read : List ℕ → Option DayParts
date_read cs = parts_spelled (trimmed cs)
