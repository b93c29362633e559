-- What a number is, and how its parts give it.
use Rattle.std.specs.Prelude.{◌≡◌, ℕ, ◌-◌, ◌*◌, ◌^◌, ◌<◌, ◌≤◌, ℤ, pos, neg_ℤ, ◌*ℤ◌, unsigned_abs, Bool, true, false}
use Rattle.std.specs.Prelude.{nat_lt}
use Rattle.std.specs.Prelude.{if◌then◌else◌, Option, Some, None}
use Rattle.fixed_num.specs.declared.number.Parts.{Parts}
use Rattle.fixed_num.specs.declared.number.Fraction.{Fraction}
use Rattle.fixed_num.specs.declared.number.Pair.{Pair}
use Rattle.fixed_num.specs.declared.number.Above.{Above}

-- the asterisk value, or `m / 10 ^ d`
pub data Number : Type 0 where
  asterisk : Number
  finite : ℤ → ℕ → Number

-- each magnitude is below this
abbrev pub magnitude_limit : ℕ
magnitude_limit = 10 ^ 19

-- the most decimals that a number has
abbrev pub most_decimals : ℕ
most_decimals = 15

-- `m / 10 ^ d`, or the asterisk value where `m` is out of range
abbrev pub number : ℤ → ℕ → Number
number m d = if nat_lt (unsigned_abs m) magnitude_limit then finite m d else asterisk

-- holds of each number of the program
abbrev pub IsInRange : Number → Type 0
IsInRange asterisk = Unit {0}
IsInRange (finite m d) = (unsigned_abs m < magnitude_limit) × (d ≤ most_decimals)

-- `m` with `k` more decimals
abbrev pub scaled : ℤ → ℕ → ℤ
scaled m k = m *ℤ pos (10 ^ k)

-- the whole number of a sign and a magnitude
abbrev pub signed : Bool → ℕ → ℤ
signed false magnitude = pos magnitude
signed true magnitude = neg_ℤ (pos magnitude)

-- the number of its parts, the asterisk value where there are none
abbrev pub number_of : Option Parts → Number
number_of None = asterisk
number_of (Some parts) = finite (signed parts.negative parts.magnitude) parts.decimals

-- the magnitude and the decimals are in range, and zero has no sign
pub record AreParts (parts : Parts) : Type 0 where
  pub magnitude_fits : parts.magnitude < magnitude_limit
  pub decimals_fit : parts.decimals ≤ most_decimals
  pub zero_unsigned : parts.negative ≡ true → 0 < parts.magnitude

-- the second has the sign of the first, so many decimals, and as many more digits
pub record IsLonger (parts : Parts) (d : ℕ) (longer : Parts) : Type 0 where
  pub sign : longer.negative ≡ parts.negative
  pub magnitude : longer.magnitude ≡ parts.magnitude * 10 ^ (d - parts.decimals)
  pub decimals : longer.decimals ≡ d

-- neither number is below zero, and they have as many decimals
pub record IsPair (x y : Number) (pair : Pair) : Type 0 where
  pub first : x ≡ finite (pos pair.first) pair.decimals
  pub second : y ≡ finite (pos pair.second) pair.decimals
  pub first_fits : pair.first < magnitude_limit
  pub second_fits : pair.second < magnitude_limit
  pub decimals_fit : pair.decimals ≤ most_decimals

-- neither number is below zero
pub record AreAbove (x y : Number) (both : Above) : Type 0 where
  pub first : x ≡ finite (pos both.first) both.first_decimals
  pub second : y ≡ finite (pos both.second) both.second_decimals
  pub first_fits : both.first < magnitude_limit
  pub second_fits : both.second < magnitude_limit
  pub first_short : both.first_decimals ≤ most_decimals
  pub second_short : both.second_decimals ≤ most_decimals

-- the numerator and the decimals of a number
pub record IsFraction (x : Number) (fraction : Fraction) : Type 0 where
  pub same : x ≡ finite fraction.numerator fraction.decimals
  pub numerator_fits : unsigned_abs fraction.numerator < magnitude_limit
  pub decimals_fit : fraction.decimals ≤ most_decimals
