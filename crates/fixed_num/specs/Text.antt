-- The text of a number, and how it stands in a field. The byte 32 is a blank, 42 is `*`, 45 is `-`, 46 is the point, 48
-- to 57 are the digits.
use Rattle.std.specs.Prelude.{ℕ, zero, suc, ◌+◌, ◌-◌, ◌/◌, ◌%◌, ◌^◌, ℤ, pos, negsuc, unsigned_abs, List, [], ◌∷◌, ◌++◌}
use Rattle.std.specs.Prelude.{length, replicate, ◌==◌, nat_le, if◌then◌else◌}
use Rattle.fixed_num.specs.Number.{Number, asterisk, finite}
use Rattle.fixed_num.specs.Rounding.{rounded_at}

-- the last `count` digits of `n`, zeros in front
abbrev pub last_digits : ℕ → ℕ → List ℕ
last_digits zero n = []
last_digits (suc k) n = (48 + n / 10 ^ k % 10) ∷ last_digits k n

-- digits without zeros in front; the last digit stays
abbrev pub without_zeros : List ℕ → List ℕ
without_zeros [] = []
without_zeros (c ∷ []) = c ∷ []
without_zeros (c ∷ (e ∷ cs)) = if c == 48 then without_zeros (e ∷ cs) else c ∷ (e ∷ cs)

-- the digits of a whole number below 10^19, at least one
unfoldable pub whole_digits : ℕ → List ℕ
whole_digits n = without_zeros (last_digits 19 n)

-- `-` of a number below zero
abbrev pub sign_text : ℤ → List ℕ
sign_text (pos n) = []
sign_text (negsuc n) = 45 ∷ []

-- the point and the last `d` digits, where there are any
abbrev pub decimals_text : ℕ → ℕ → List ℕ
decimals_text zero n = []
decimals_text (suc k) n = 46 ∷ last_digits (suc k) n

-- the text: the sign, the digits before the point, the point and the decimals; ten asterisks of the asterisk value
abbrev pub text_of : Number → List ℕ
text_of asterisk = replicate 10 42
text_of (finite m d) = sign_text m ++ whole_digits (unsigned_abs m / 10 ^ d) ++ decimals_text d (unsigned_abs m)

-- a text at the right end of a field, which is all asterisks where the text is longer
abbrev pub at_right : ℕ → List ℕ → List ℕ
at_right width text = if nat_le (length text) width then replicate (width - length text) 32 ++ text
    else replicate width 42

-- the number in a field; the asterisk value fills it
abbrev pub in_field : ℕ → Number → List ℕ
in_field width asterisk = replicate width 42
in_field width (finite m d) = at_right width (text_of (finite m d))

-- the number in a field, with so many decimals
abbrev pub printed_in : ℕ → ℕ → Number → List ℕ
printed_in width decimals x = in_field width (rounded_at (pos decimals) x)
