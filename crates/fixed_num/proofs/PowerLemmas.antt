-- The table of powers, and the size of a number with more decimals.
use Rattle.std.proofs.Common.{◌≡◌, ℕ, zero, suc, ◌+◌, ◌-◌, ◌^◌, ◌<◌, ◌≤◌, Bool, true, ◌&&◌, ◌==◌, List, [], ◌∷◌, length}
use Rattle.std.proofs.Common.{get_or, ap, ◌∙◌, arith}
use Rattle.std.specs.Prelude.{ℤ, pos, ◌+ℤ◌, ◌*ℤ◌, unsigned_abs, FitsSigned}
use Rattle.std.specs.Int.{w128}
use mir.Val.{to_z, of_z}
use Rattle.std.proofs.lemmas.Int.{ints, to_z-of_z, to_z_pos, unsigned_abs-mul, fits_signed_from_abs}
use Rattle.std.proofs.Math.Nat.{pow-le-pow_right, mul-le-mul}
use Rattle.std.proofs.lemmas.Bool.Decides.{nat_tests}
use Rattle.fixed_num.specs.Number.{scaled}

-- the list has the powers of ten from the `i`th on
abbrev pub are_powers : ℕ → List ℕ → Bool
are_powers i [] = true
are_powers i (x ∷ xs) = (x == 10 ^ i) && are_powers (suc i) xs

pub get_or-powers : (xs : List ℕ) (i k : ℕ) → are_powers i xs ≡ true → k < length xs → get_or xs k 0 ≡ 10 ^ (i + k)
get_or-powers [] i k h lt = absurd (omega arith)
get_or-powers (x ∷ xs) i zero h lt = grind (arith, nat_tests)
get_or-powers (x ∷ xs) i (suc k) h lt =
    let e : 10 ^ (suc i + k) ≡ 10 ^ (i + suc k) = ap (λ n. 10 ^ n) (omega arith) in
    let t : are_powers (suc i) xs ≡ true = grind (arith, nat_tests) in
    get_or-powers xs (suc i) k t (omega arith) ∙ e

pub power_below : (k n : ℕ) → k ≤ n → 10 ^ k ≤ 10 ^ n
power_below k n h = pow-le-pow_right (let h : 0 < 10 = omega arith in h) h

pub scaled_bound : (m : ℤ) (k : ℕ) → unsigned_abs m < 10 ^ 19 → k ≤ 15 → unsigned_abs (scaled m k) < 10 ^ 34
scaled_bound m k below few =
    omega (
      arith,
      unsigned_abs-mul m (pos (10 ^ k)),
      mul-le-mul
          (let h : unsigned_abs m ≤ 10 ^ 19 - 1 = omega arith in h) (power_below k 15 few),
    )

pub scaled_fits : (m : ℤ) (k : ℕ) → unsigned_abs m < 10 ^ 19 → k ≤ 15 → FitsSigned w128 (scaled m k)
scaled_fits m k below few = fits_signed_from_abs w128 (scaled m k) (omega (arith, scaled_bound m k below few))

pub power_to_z : (p k : ℕ) → k ≤ 15 → p ≡ 10 ^ k → to_z w128 p ≡ pos (10 ^ k)
power_to_z p k few e = ap (to_z w128) e ∙ to_z_pos w128 (10 ^ k) (omega (arith, power_below k 15 few))

pub scaled_is : (m : ℤ) (p k : ℕ) → FitsSigned w128 m → k ≤ 15 → p ≡ 10 ^ k
    → to_z w128 (of_z w128 m) *ℤ to_z w128 p ≡ scaled m k
scaled_is m p k fits few e = rw (to_z-of_z w128 m fits, power_to_z p k few e)

-- a signed number goes through its bits unchanged
pub passed : (z : ℤ) → unsigned_abs z < 2 ^ 127 → to_z w128 (of_z w128 z) ≡ z
passed z small = to_z-of_z w128 z (fits_signed_from_abs w128 z small)

pub sum_passed : (x y : ℤ) → unsigned_abs x < 10 ^ 34 → unsigned_abs y < 10 ^ 34
    → to_z w128 (of_z w128 (to_z w128 (of_z w128 x) +ℤ to_z w128 (of_z w128 y))) ≡ x +ℤ y
sum_passed x y small_x small_y =
    let fx : FitsSigned w128 x = fits_signed_from_abs w128 x (omega arith) in
    let fy : FitsSigned w128 y = fits_signed_from_abs w128 y (omega arith) in
    rw (to_z-of_z w128 x fx, to_z-of_z w128 y fy) (passed (x +ℤ y) (omega (arith, ints)))
