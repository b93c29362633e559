-- Rounding to whole numbers, to decimals and to multiples of powers of ten.
use Rattle.std.specs.Prelude.{ℕ, suc, ◌+◌, ◌*◌, ◌/◌, ◌^◌, ◌<◌, ◌≤◌, ℤ, pos, negsuc, neg_ℤ, int_div}
use Rattle.std.specs.Int.{int_min, int_max}
use Rattle.fixed_num.specs.Number.{Number, asterisk, finite, number, scaled}

-- the whole number nearest to `p / q`, a half upwards
abbrev pub nearest : ℕ → ℕ → ℕ
nearest p q = (2 * p + q) / (2 * q)

-- no whole number is nearer to `p / q` than `n`, and of two as near it is the greater
pub record IsNearest (p q n : ℕ) : Type 0 where
  pub not_above : 2 * (n * q) ≤ 2 * p + q
  pub not_below : 2 * p < 2 * (n * q) + q

-- the whole number nearest to `p / q`, a half away from zero
abbrev pub rounded : ℤ → ℤ → ℤ
rounded (pos p) (pos q) = pos (nearest p q)
rounded (pos p) (negsuc q) = neg_ℤ (pos (nearest p (suc q)))
rounded (negsuc p) (pos q) = neg_ℤ (pos (nearest (suc p) q))
rounded (negsuc p) (negsuc q) = pos (nearest (suc p) (suc q))

-- the number with so many decimals, and where the places are below zero the nearest multiple of that power of ten
abbrev pub rounded_at : ℤ → Number → Number
rounded_at places asterisk = asterisk
rounded_at (pos decimals) (finite m d) = number (rounded (scaled m decimals) (pos (10 ^ d))) decimals
rounded_at (negsuc k) (finite m d) = number (scaled (rounded m (pos (10 ^ (d + suc k)))) (suc k)) 0

-- the places, brought into -18 to 15
abbrev pub places_within : ℤ → ℤ
places_within places = int_min (int_max places (negsuc 17)) (pos 15)

-- the number rounded to so many places
abbrev pub rounded_to : ℤ → Number → Number
rounded_to places x = rounded_at (places_within places) x

-- the number cut toward zero, as a whole number; 0 of the asterisk value
abbrev pub whole_part : Number → ℤ
whole_part asterisk = pos 0
whole_part (finite m d) = int_div m (pos (10 ^ d))

-- the number cut toward zero, without decimals
abbrev pub cut : Number → Number
cut asterisk = asterisk
cut (finite m d) = finite (int_div m (pos (10 ^ d))) 0
