-- Sums, products, quotients and remainders.
use Rattle.std.specs.Prelude.{◌≡◌, ◌<◌, ℕ, suc, ◌+◌, ◌-◌, ◌/◌, ◌^◌, ℤ, pos, negsuc, neg_ℤ, ◌+ℤ◌, ◌-ℤ◌, ◌*ℤ◌, ◌≤ℤ◌, ◌<ℤ◌}
use Rattle.std.specs.Prelude.{unsigned_abs, max, ◌==◌, nat_le, if◌then◌else◌}
use Rattle.fixed_num.specs.Number.{Number, asterisk, finite, number, scaled, magnitude_limit, most_decimals}
use Rattle.fixed_num.specs.Rounding.{rounded}

-- the sum, with the greater number of decimals
abbrev pub sum_of : Number → Number → Number
sum_of (finite m d) (finite n e) = number (scaled m (max d e - d) +ℤ scaled n (max d e - e)) (max d e)
sum_of _ _ = asterisk

-- both are below zero, or neither is
abbrev pub AreOfOneSign : ℤ → ℤ → Type 0
AreOfOneSign (pos m) (pos n) = Unit {0}
AreOfOneSign (negsuc m) (negsuc n) = Unit {0}
AreOfOneSign _ _ = ⊥

-- `m / 10 ^ d` and `n / 10 ^ e` are of one sign and as many decimals, and their magnitudes together are in range
pub record AreAlikeParts (m : ℤ) (d : ℕ) (n : ℤ) (e : ℕ) : Type 0 where
  pub of_one_sign : AreOfOneSign m n
  pub as_many_decimals : d ≡ e
  pub in_range : unsigned_abs m + unsigned_abs n < magnitude_limit

-- the same of two numbers other than the asterisk value
abbrev pub AreAlike : Number → Number → Type 0
AreAlike (finite m d) (finite n e) = AreAlikeParts m d n e
AreAlike _ _ = ⊥

-- the number with its sign turned
abbrev pub negated : Number → Number
negated asterisk = asterisk
negated (finite m d) = finite (neg_ℤ m) d

-- the first less the second
abbrev pub difference_of : Number → Number → Number
difference_of x y = sum_of x (negated y)

-- the number without its sign
abbrev pub absolute : Number → Number
absolute asterisk = asterisk
absolute (finite m d) = finite (pos (unsigned_abs m)) d

-- `m / 10 ^ d`, rounded to the most decimals where it has more
abbrev pub fitted : ℤ → ℕ → Number
fitted m d = if nat_le d most_decimals then number m d
    else number (rounded m (pos (10 ^ (d - most_decimals)))) most_decimals

-- the product, with the decimals of both
abbrev pub product_of : Number → Number → Number
product_of (finite m d) (finite n e) = fitted (m *ℤ n) (d + e)
product_of _ _ = asterisk

-- the decimals of a quotient: the greatest of both and 2
abbrev pub quotient_decimals : ℕ → ℕ → ℕ
quotient_decimals d e = max (max d e) 2

-- the quotient, rounded to those decimals
abbrev pub quotient_of : Number → Number → Number
quotient_of (finite m d) (finite n e) =
    if unsigned_abs n == 0 then asterisk
    else number (rounded (scaled m (quotient_decimals d e + e)) (scaled n d)) (quotient_decimals d e)
quotient_of _ _ = asterisk

-- the greatest whole number that is at most `p / q`, for `q` above zero
abbrev pub floored_by : ℤ → ℕ → ℤ
floored_by (pos p) q = pos (p / q)
floored_by (negsuc p) q = negsuc (p / q)

-- `n` is at most `p / q`, and `n + 1` is above it
pub record IsFloor (p : ℤ) (q : ℕ) (n : ℤ) : Type 0 where
  pub at_most : (n *ℤ pos q) ≤ℤ p
  pub greatest : p <ℤ (n *ℤ pos q +ℤ pos q)

-- the greatest whole number that is at most `p / q`; below zero both signs are turned
abbrev pub floored : ℤ → ℤ → ℤ
floored p (pos q) = floored_by p q
floored p (negsuc q) = floored_by (neg_ℤ p) (suc q)

-- `p - q * floor(p / q)`
abbrev pub remainder_of : ℤ → ℤ → ℤ
remainder_of p q = p -ℤ q *ℤ floored p q

-- the remainder, with the sign of the second and the greater number of decimals
abbrev pub modulus_of : Number → Number → Number
modulus_of (finite m d) (finite n e) =
    if unsigned_abs n == 0 then asterisk
    else number (remainder_of (scaled m (max d e - d)) (scaled n (max d e - e))) (max d e)
modulus_of _ _ = asterisk
