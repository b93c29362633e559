-- Days that a table's file can be stamped with, and the words that name them. 45 is a hyphen.
use Rattle.std.specs.Prelude.{◌≡◌, ℕ, List, Ok, Option, Some, None, pos, true, is_some, length, slice_index}
use Rattle.calendar.specs.declared.day.DayParts.{DayParts}
use Rattle.dbf_file.specs.Values.{stamp_of}
use Rattle.jiff.specs.Words.{parse_date}

abbrev pub HasStamp : Option DayParts → Type 0
HasStamp day = is_some (stamp_of day) ≡ true

-- the word names the date of these parts
abbrev pub NamesParts : List ℕ → Option DayParts → Type 0
NamesParts word None = ⊥
NamesParts word (Some parts) =
    parse_date word ≡ Ok (record { year = pos parts.year; month = parts.month; day = parts.day })

-- the word has the form YYYY-MM-DD, and names this day
pub record IsDayNamed (word : List ℕ) (day : Option DayParts) : Type 0 where
  pub long : length word ≡ 10
  pub first : slice_index word 4 ≡ 45
  pub second : slice_index word 7 ≡ 45
  pub date : NamesParts word day

-- it names no day that a table's file can be stamped with
abbrev pub NamesNoDay : List ℕ → Type 0
NamesNoDay word = (day : Option DayParts) → IsDayNamed word day → ¬ HasStamp day
