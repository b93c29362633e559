-- What a line of the operator leaves of an old value, kind by kind: an empty or bad line keeps it.
use Rattle.std.specs.Prelude.{ℕ, ◌-◌, Bool, true, false, ◌||◌, List, [], ◌∷◌, ◌++◌, length, take, replicate, ◌==◌}
use Rattle.std.specs.Prelude.{if◌then◌else◌, Option, Some, None}
use Rattle.fixed_num.specs.Number.{Number as Decimal, asterisk, finite}
use Rattle.fixed_num.specs.Reading.{parsed}
use Rattle.calendar.specs.declared.day.DayParts.{DayParts}
use Rattle.xvalue.specs.declared.value.Value.{Value}
use Rattle.xvalue.specs.declared.value.Value.TheVariants.{Number, Text, Date, Logical}
use Rattle.calendar.specs.DateTexts.{date_read}

-- a text cut to a length, or with blanks behind it up to that length
abbrev pub at_length : ℕ → List ℕ → List ℕ
at_length size cs = take size cs ++ replicate (size - length cs) 32

-- a text keeps its length
abbrev pub text_answered : List ℕ → List ℕ → List ℕ
text_answered old [] = old
text_answered old (c ∷ cs) = at_length (length old) (c ∷ cs)

-- the old number where the new one is the asterisk value
abbrev pub number_or : Decimal → Decimal → Decimal
number_or old asterisk = old
number_or old (finite m d) = finite m d

-- a line that is read as the asterisk value is bad
abbrev pub number_answered : Decimal → List ℕ → Decimal
number_answered old [] = old
number_answered old (c ∷ cs) = number_or old (parsed (c ∷ cs))

-- the old date where the new one is blank
abbrev pub date_or : Option DayParts → Option DayParts → Option DayParts
date_or old None = old
date_or old (Some parts) = Some parts

-- a line that spells no day is bad
abbrev pub date_answered : Option DayParts → List ℕ → Option DayParts
date_answered old [] = old
date_answered old (c ∷ cs) = date_or old (date_read (c ∷ cs))

-- T, t, Y or y
abbrev pub says_yes : ℕ → Bool
says_yes c = (c == 84 || c == 116) || (c == 89 || c == 121)

-- F, f, N or n
abbrev pub says_no : ℕ → Bool
says_no c = (c == 70 || c == 102) || (c == 78 || c == 110)

-- the first byte decides
abbrev pub truth_answered : Bool → List ℕ → Bool
truth_answered old [] = old
truth_answered old (c ∷ cs) = if says_yes c then true else (if says_no c then false else old)

-- a value of any kind
abbrev pub answered : Value → List ℕ → Value
answered (Number old) line = Number (number_answered old line)
answered (Text old) line = Text (record { items = text_answered old.items line })
answered (Date old) line = Date (date_answered old line)
answered (Logical old) line = Logical (truth_answered old line)
