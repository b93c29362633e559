-- Rounding by sign and magnitude, and rounding after a common factor.
use Rattle.std.proofs.Common.{◌≡◌, ℕ, zero, suc, ◌+◌, ◌*◌, ◌/◌, ◌<◌, ◌≤◌, Bool, true, false, not, refl, sym, ap, ◌∙◌}
use Rattle.std.proofs.Common.{subst, arith}
use Rattle.std.specs.Prelude.{◌-◌, ◌^◌, pos, neg_ℤ, nat_le, if◌then◌else◌}
use mathlib.Core.Bool.{beq}
use Rattle.std.proofs.Math.Nat.{one-le-pow, mul-le-mul, div-lt_iff_lt-mul, div-eq_of_lt, mul-div-mul_right}
use Rattle.std.proofs.lemmas.Nat.{pow-add}
use Rattle.fixed_num.proofs.PowerLemmas.{power_below}
use Rattle.fixed_num.proofs.SignLemmas.{scaled_signed}
use Rattle.fixed_num.specs.Number.{finite, signed, number, scaled, most_decimals}
use Rattle.fixed_num.specs.Arithmetic.{fitted}
use Rattle.std.proofs.lemmas.Bool.Decides.{nat_tests}
use Rattle.fixed_num.specs.Rounding.{nearest, rounded, rounded_at}

pub nearest_zero : (q : ℕ) → 0 < q → nearest 0 q ≡ 0
nearest_zero q h = div-eq_of_lt (omega arith)

-- the sign stands outside the rounding
pub rounded_signed : (s t : Bool) (p q : ℕ) → 0 < q → rounded (signed s p) (signed t q)
    ≡ signed (not (beq s t)) (nearest p q)
rounded_signed s t p zero h = absurd (omega arith)
rounded_signed false false p (suc q) h = refl
rounded_signed false true p (suc q) h = refl
rounded_signed true false zero (suc q) h = rw (nearest_zero (suc q) h)
rounded_signed true false (suc p) (suc q) h = refl
rounded_signed true true zero (suc q) h = rw (nearest_zero (suc q) h)
rounded_signed true true (suc p) (suc q) h = refl

pub rounded_by_pos : (s : Bool) (p q : ℕ) → 0 < q → rounded (signed s p) (pos q) ≡ signed s (nearest p q)
rounded_by_pos false p q h = rounded_signed false false p q h
rounded_by_pos true p q h = rounded_signed true false p q h

-- a common factor changes nothing
pub nearest-mul_right : (p q k : ℕ) → 0 < k → nearest (p * k) (q * k) ≡ nearest p q
nearest-mul_right p q k h =
    let e : 2 * (p * k) + q * k ≡ (2 * p + q) * k = omega arith in
    let f : 2 * (q * k) ≡ 2 * q * k = omega arith in
    rw (e, f) (mul-div-mul_right (2 * p + q) (2 * q) h)

-- a product of so many decimals, by sign and magnitude
pub fitted_many : (s : Bool) (p d power kept : ℕ) → most_decimals < d → power ≡ 10 ^ (d - most_decimals)
    → kept ≡ nearest p power → number (signed s kept) most_decimals ≡ fitted (signed s p) d
fitted_many s p d power kept many is_power is_kept =
    let above : nat_le d most_decimals ≡ false = grind (arith, nat_tests) in
    let positive : 0 < 10 ^ (d - most_decimals) = one-le-pow (d - most_decimals) 10 (omega arith) in
    let whole : rounded (signed s p) (pos (10 ^ (d - most_decimals)))
    ≡ signed s kept = rounded_by_pos s p (10 ^ (d - most_decimals)) positive
    ∙ ap (signed s) (ap (nearest p) (sym is_power) ∙ sym is_kept) in
    let P : Bool → Type 0 = λ b. number (signed s kept) most_decimals
    ≡ (if b then number (signed s p) d else number (rounded (signed s p) (pos (10 ^ (d - most_decimals))))
    most_decimals) in
    subst P (sym above) (ap (λ m. number m most_decimals) (sym whole))

pub nearest_one : (p : ℕ) → nearest p 1 ≡ p
nearest_one p = omega arith

-- rounding never makes a number longer
pub nearest_le : (p q : ℕ) → 0 < q → nearest p q ≤ p
nearest_le p zero h = absurd (omega arith)
nearest_le p (suc q) h =
    let top : (2 * p + suc q) / (2 * suc q) < p + 1 = (div-lt_iff_lt-mul (let k : 0 < 2 * suc q = omega arith in k)).1
    (let k : 2 * p + suc q < (p + 1) * (2 * suc q) = omega arith in k) in
    omega arith

pub multiple_fits : (m q power k count : ℕ) → m < 2 ^ 64 → 0 < q → k ≤ 18 → power ≡ 10 ^ k → count ≡ nearest m q
    → count * power < 2 ^ 128
multiple_fits m q power k count small positive few is is_count =
    let short : count ≤ m = subst (λ (x : ℕ). x ≤ m) (sym is_count) (nearest_le m q positive) in
    let bound : count * power ≤ 2 ^ 64 * 10 ^ 18 = mul-le-mul (let h : count ≤ 2 ^ 64 = omega arith in h)
    (let h : power ≤ 10 ^ 18 = omega (arith, power_below k 18 few) in h) in
    omega arith

-- the nearest multiple, by sign and magnitude
pub multiple_from : (s : Bool) (m d k power unit count : ℕ) → 1 ≤ k → power ≡ 10 ^ d → unit ≡ 10 ^ k
    → count ≡ nearest m (power * unit) → number (signed s (count * unit)) 0
    ≡ rounded_at (neg_ℤ (pos k)) (finite (signed s m) d)
multiple_from s m d zero power unit count some is_power is_unit is_count = absurd (omega arith)
multiple_from s m d (suc j) power unit count some is_power is_unit is_count =
    let positive : 0 < 10 ^ (d + suc j) = one-le-pow (d + suc j) 10 (omega arith) in
    let joined : 10 ^ (d + suc j) ≡ power * unit =
    pow-add 10 d (suc j) ∙ ap (λ x. x * 10 ^ suc j) (sym is_power) ∙ ap (λ x. power * x) (sym is_unit) in
    let near : nearest m (10 ^ (d + suc j)) ≡ count = ap (nearest m) joined ∙ sym is_count in
    let whole : rounded (signed s m) (pos (10 ^ (d + suc j))) ≡ signed s count =
    rounded_by_pos s m (10 ^ (d + suc j)) positive ∙ ap (signed s) near in
    let both : scaled (rounded (signed s m) (pos (10 ^ (d + suc j)))) (suc j)
    ≡ signed s (count * unit) = ap (λ v. scaled v (suc j)) whole ∙ scaled_signed s count (10 ^ suc j)
    ∙ ap (λ u. signed s (count * u)) (sym is_unit) in
    ap (λ v. number v 0) (sym both)

-- more decimals
pub with_more : (s : Bool) (m d p power : ℕ) → d ≤ p → power ≡ 10 ^ (p - d)
    → number (signed s (m * power)) p ≡ rounded_at (pos p) (finite (signed s m) d)
with_more s m d p power few is =
    let positive : 0 < 10 ^ d = one-le-pow d 10 (omega arith) in
    let split : 10 ^ p ≡ 10 ^ (p - d) * 10 ^ d =
    ap (λ k. 10 ^ k) (let h : p ≡ p - d + d = omega arith in h) ∙ pow-add 10 (p - d) d in
    let factor : m * 10 ^ p ≡ m * power * 10 ^ d = ap (λ x. m * x) (split ∙ ap (λ x. x * 10 ^ d) (sym is))
    ∙ (let h : m * (power * 10 ^ d) ≡ m * power * 10 ^ d = omega arith in h) in
    let one : 10 ^ d ≡ 1 * 10 ^ d = omega arith in
    let near : nearest (m * 10 ^ p) (10 ^ d) ≡ m * power = ap (λ x. nearest x (10 ^ d)) factor
    ∙ ap (λ x. nearest (m * power * 10 ^ d) x) one ∙ nearest-mul_right (m * power) 1 (10 ^ d) positive
    ∙ nearest_one (m * power) in
    let whole : rounded (scaled (signed s m) p) (pos (10 ^ d)) ≡ signed s (m * power) = ap
    (λ x. rounded x (pos (10 ^ d))) (scaled_signed s m (10 ^ p)) ∙ rounded_by_pos s (m * 10 ^ p) (10 ^ d) positive
    ∙ ap (λ x. signed s x) near in
    ap (λ x. number x p) (sym whole)

-- fewer decimals
pub with_fewer : (s : Bool) (m d p power kept : ℕ) → p < d → power ≡ 10 ^ (d - p) → kept ≡ nearest m power
    → number (signed s kept) p ≡ rounded_at (pos p) (finite (signed s m) d)
with_fewer s m d p power kept many is is_kept =
    let positive : 0 < 10 ^ d = one-le-pow d 10 (omega arith) in
    let common : 0 < 10 ^ p = one-le-pow p 10 (omega arith) in
    let split : 10 ^ d ≡ power * 10 ^ p = ap (λ k. 10 ^ k) (let h : d ≡ d - p + p = omega arith in h)
    ∙ pow-add 10 (d - p) p ∙ ap (λ x. x * 10 ^ p) (sym is) in
    let near : nearest (m * 10 ^ p) (10 ^ d) ≡ kept =
    ap (λ x. nearest (m * 10 ^ p) x) split ∙ nearest-mul_right m power (10 ^ p) common ∙ sym is_kept in
    let whole : rounded (scaled (signed s m) p) (pos (10 ^ d)) ≡ signed s kept = ap (λ x. rounded x (pos (10 ^ d)))
    (scaled_signed s m (10 ^ p)) ∙ rounded_by_pos s (m * 10 ^ p) (10 ^ d) positive ∙ ap (λ x. signed s x) near in
    ap (λ x. number x p) (sym whole)
