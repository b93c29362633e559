-- What number a text is read as. The byte 32 is a blank, 43 is `+`, 45 is `-`, 46 is the point, 48 to 57 are the
-- digits.
use Rattle.std.specs.Prelude.{ℕ, ◌+◌, ◌-◌, ◌*◌, pos, Bool, true, false, ◌&&◌, List, [], ◌∷◌, ◌++◌, length, reverse}
use Rattle.std.specs.Prelude.{◌==◌, nat_lt, nat_le, if◌then◌else◌}
use Rattle.fixed_num.specs.Number.{Number, asterisk, finite, signed}
use Rattle.fixed_num.specs.Arithmetic.{fitted}

-- a text without the blanks in front
abbrev pub without_blanks : List ℕ → List ℕ
without_blanks [] = []
without_blanks (c ∷ cs) = if c == 32 then without_blanks cs else c ∷ cs

-- a text without the blanks at both ends
abbrev pub trimmed : List ℕ → List ℕ
trimmed cs = reverse (without_blanks (reverse (without_blanks cs)))

-- what stands before the first point, the whole text where there is none
abbrev pub before_point : List ℕ → List ℕ
before_point [] = []
before_point (c ∷ cs) = if c == 46 then [] else c ∷ before_point cs

-- what stands after the first point
abbrev pub after_point : List ℕ → List ℕ
after_point [] = []
after_point (c ∷ cs) = if c == 46 then cs else after_point cs

abbrev pub is_digit : ℕ → Bool
is_digit c = nat_le 48 c && nat_le c 57

abbrev pub are_digits : List ℕ → Bool
are_digits [] = true
are_digits (c ∷ cs) = is_digit c && are_digits cs

-- `n` with digits written behind it
abbrev pub with_digits : ℕ → List ℕ → ℕ
with_digits n [] = n
with_digits n (c ∷ cs) = with_digits (n * 10 + (c - 48)) cs

-- digits before and after the point: at least one, and nothing else
abbrev pub is_numeral : List ℕ → List ℕ → Bool
is_numeral whole fraction = nat_lt 0 (length whole + length fraction) && (are_digits whole && are_digits fraction)

-- the number of a sign, the digits before the point and those after it
abbrev pub numeral : Bool → List ℕ → List ℕ → Number
numeral negative whole fraction =
    if is_numeral whole fraction then fitted (signed negative (with_digits 0 (whole ++ fraction))) (length fraction)
    else asterisk

-- the number of a sign and a text without one
abbrev pub unsigned_read : Bool → List ℕ → Number
unsigned_read negative cs = numeral negative (before_point cs) (after_point cs)

-- the number of a text without blanks around it
abbrev pub signed_read : List ℕ → Number
signed_read [] = finite (pos 0) 0
signed_read (c ∷ cs) = if c == 45 then unsigned_read true cs
    else (if c == 43 then unsigned_read false cs else unsigned_read false (c ∷ cs))

-- the number that a text is read as: 0 of blanks alone, the asterisk value of what is no number
abbrev pub parsed : List ℕ → Number
parsed cs = signed_read (trimmed cs)

-- the digits that a text begins with
abbrev pub digits_in_front : List ℕ → List ℕ
digits_in_front [] = []
digits_in_front (c ∷ cs) = if is_digit c then c ∷ digits_in_front cs else []

-- what stands behind the digits that a text begins with
abbrev pub behind_digits : List ℕ → List ℕ
behind_digits [] = []
behind_digits (c ∷ cs) = if is_digit c then behind_digits cs else c ∷ cs

-- the digits behind a point, where a text begins with one
abbrev pub decimals_in_front : List ℕ → List ℕ
decimals_in_front [] = []
decimals_in_front (c ∷ cs) = if c == 46 then digits_in_front cs else []

-- the number of a sign and digits, 0 without digits
abbrev pub numeral_or_zero : Bool → List ℕ → List ℕ → Number
numeral_or_zero negative whole fraction = if length whole + length fraction == 0 then finite (pos 0) 0
    else numeral negative whole fraction

-- the number of a sign and the longest numeral without one that a text begins with
abbrev pub unsigned_prefix : Bool → List ℕ → Number
unsigned_prefix negative cs = numeral_or_zero negative (digits_in_front cs) (decimals_in_front (behind_digits cs))

-- the number of the longest numeral that a text begins with
abbrev pub signed_prefix : List ℕ → Number
signed_prefix [] = finite (pos 0) 0
signed_prefix (c ∷ cs) = if c == 45 then unsigned_prefix true cs
    else (if c == 43 then unsigned_prefix false cs else unsigned_prefix false (c ∷ cs))

-- the number of the longest numeral that a text begins with behind its blanks in front, 0 without one
abbrev pub prefix_read : List ℕ → Number
prefix_read cs = signed_prefix (without_blanks cs)
