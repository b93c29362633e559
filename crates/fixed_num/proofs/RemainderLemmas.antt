-- The remainder by sign and magnitude.
use Rattle.std.proofs.Common.{◌≡◌, ℕ, zero, suc, ◌+◌, ◌-◌, ◌*◌, ◌/◌, ◌%◌, ◌^◌, ◌<◌, Bool, true, false, not, ◌≢◌, refl}
use Rattle.std.proofs.Common.{sym, ap, ◌∙◌, subst, max, ◌==◌, arith}
use Rattle.std.specs.Prelude.{ℤ, pos, negsuc, neg_ℤ, ◌-ℤ◌, ◌*ℤ◌, unsigned_abs, nat_lt, if◌then◌else◌}
use Rattle.std.proofs.Math.Nat.{div-add-mod', mod-lt, mod-le, div-eq_of_lt, zero-mod}
use Rattle.std.proofs.lemmas.Int.{ints}
use Rattle.std.proofs.lemmas.Nat.{div-mul-add}
use mathlib.Core.Bool.{beq}
use Rattle.std.proofs.lemmas.Bool.{false≢true, lt-ltb}
use Rattle.std.proofs.lemmas.Bool.Decides.{nat_tests}
use Rattle.fixed_num.specs.Number.{asterisk, finite, number, scaled, signed, magnitude_limit}
use Rattle.fixed_num.specs.Arithmetic.{floored, floored_by, IsFloor, remainder_of, modulus_of}
use Rattle.fixed_num.proofs.SignLemmas.{scaled_signed, abs_signed}

-- one sign: the remainder of the magnitudes
pub rest_same : (s : Bool) (p q : ℕ) → 0 < q → signed s (p % q) ≡ remainder_of (signed s p) (signed s q)
rest_same s p zero h = absurd (omega arith)
rest_same false p (suc q) h =
    let e : p / suc q * suc q + p % suc q ≡ p = div-add-mod' p (suc q) in
    omega (arith, ints)
rest_same true zero (suc q) h =
    let e : 0 % suc q ≡ 0 = zero-mod (suc q) in
    let k : 0 / suc q ≡ 0 = div-eq_of_lt h in
    rw (e, k) (omega (arith, ints))
rest_same true (suc p) (suc q) h =
    let e : suc p / suc q * suc q + suc p % suc q ≡ suc p = div-add-mod' (suc p) (suc q) in
    omega (arith, ints)

-- a divisor below zero: the quotient is rounded down, to `-k`
rest_below : (p q k r : ℕ) → p / suc q + 1 ≡ k → suc p + r ≡ k * suc q
    → neg_ℤ (pos r) ≡ remainder_of (pos (suc p)) (negsuc q)
rest_below p q k r is_k e =
    let whole : negsuc q *ℤ floored (pos (suc p)) (negsuc q) ≡ pos (suc q * k) =
    ap (λ x. pos (suc q * x)) (let h : suc (p / suc q) ≡ k = omega arith in h) in
    let f : neg_ℤ (pos r) ≡ pos (suc p) -ℤ pos (suc q * k) = omega (arith, ints) in
    f ∙ ap (λ x. pos (suc p) -ℤ x) (sym whole)

-- a dividend below zero: the quotient is rounded down, to `-k`
rest_above : (p q k r : ℕ) → p / q + 1 ≡ k → suc p + r ≡ k * q → pos r ≡ remainder_of (negsuc p) (pos q)
rest_above p q k r is_k e =
    let whole : pos q *ℤ floored (negsuc p) (pos q) ≡ neg_ℤ (pos (q * k)) =
    ap (λ x. neg_ℤ (pos (q * x))) (let h : suc (p / q) ≡ k = omega arith in h) in
    let f : pos r ≡ negsuc p -ℤ neg_ℤ (pos (q * k)) = omega (arith, ints) in
    f ∙ ap (λ x. negsuc p -ℤ x) (sym whole)

rest_none_below : (p q c : ℕ) → c * suc q ≡ suc p → pos 0 ≡ remainder_of (pos (suc p)) (negsuc q)
rest_none_below p q zero e = absurd (omega arith)
rest_none_below p q (suc c) e =
    let g : p ≡ c * suc q + q = omega arith in
    let k : p / suc q ≡ c = ap (λ x. x / suc q) g ∙ div-mul-add c (suc q) q (omega arith) in
    rest_below p q (suc c) 0 (omega arith) (omega arith)

rest_none_above : (p q c : ℕ) → c * suc q ≡ suc p → pos 0 ≡ remainder_of (negsuc p) (pos (suc q))
rest_none_above p q zero e = absurd (omega arith)
rest_none_above p q (suc c) e =
    let g : p ≡ c * suc q + q = omega arith in
    let k : p / suc q ≡ c = ap (λ x. x / suc q) g ∙ div-mul-add c (suc q) q (omega arith) in
    rest_above p (suc q) (suc c) 0 (omega arith) (omega arith)

-- other signs and no rest
pub rest_none : (s : Bool) (p q : ℕ) → 0 < q → p % q ≡ 0 → signed (not s) (p % q)
    ≡ remainder_of (signed s p) (signed (not s) q)
rest_none s p zero h none = absurd (omega arith)
rest_none false zero (suc q) h none =
    let e : 0 / suc q ≡ 0 = div-eq_of_lt h in
    rw (none, e) (omega (arith, ints))
rest_none false (suc p) (suc q) h none =
    let e : suc p / suc q * suc q + suc p % suc q ≡ suc p = div-add-mod' (suc p) (suc q) in
    ap (λ x. neg_ℤ (pos x)) none ∙ rest_none_below p q (suc p / suc q) (omega arith)
rest_none true zero (suc q) h none =
    let e : 0 / suc q ≡ 0 = div-eq_of_lt h in
    rw (none, e) (omega (arith, ints))
rest_none true (suc p) (suc q) h none =
    let e : suc p / suc q * suc q + suc p % suc q ≡ suc p = div-add-mod' (suc p) (suc q) in
    ap pos none ∙ rest_none_above p q (suc p / suc q) (omega arith)

signed_zero : (s : Bool) → signed s 0 ≡ pos 0
signed_zero false = refl
signed_zero true = refl

pub rest_zero : (s : Bool) (p q : ℕ) → 0 < q → p % q ≡ 0 → remainder_of (signed s p) (signed (not s) q) ≡ pos 0
rest_zero s p q h none = sym (rest_none s p q h none) ∙ ap (signed (not s)) none ∙ signed_zero (not s)

-- other signs and a rest
pub rest_some : (s : Bool) (p q : ℕ) → 0 < q → p % q ≢ 0 → signed (not s) (q - p % q)
    ≡ remainder_of (signed s p) (signed (not s) q)
rest_some s p zero h some = absurd (omega arith)
rest_some false zero (suc q) h some = absurd (some (zero-mod (suc q)))
rest_some false (suc p) (suc q) h some =
    let e : suc p / suc q * suc q + suc p % suc q ≡ suc p = div-add-mod' (suc p) (suc q) in
    let small : suc p % suc q < suc q = mod-lt (suc p) h in
    let c = suc p / suc q in
    let g : p ≡ c * suc q + (suc p % suc q - 1) = omega arith in
    let k : p / suc q ≡ c = ap (λ x. x / suc q) g ∙ div-mul-add c (suc q) (suc p % suc q - 1) (omega arith) in
    rest_below p q (c + 1) (suc q - suc p % suc q) (omega arith) (omega arith)
rest_some true zero (suc q) h some = absurd (some (zero-mod (suc q)))
rest_some true (suc p) (suc q) h some =
    let e : suc p / suc q * suc q + suc p % suc q ≡ suc p = div-add-mod' (suc p) (suc q) in
    let small : suc p % suc q < suc q = mod-lt (suc p) h in
    let c = suc p / suc q in
    let g : p ≡ c * suc q + (suc p % suc q - 1) = omega arith in
    let k : p / suc q ≡ c = ap (λ x. x / suc q) g ∙ div-mul-add c (suc q) (suc p % suc q - 1) (omega arith) in
    rest_above p (suc q) (c + 1) (suc q - suc p % suc q) (omega arith) (omega arith)

-- what the code found, where the signs differ and a rest is left
differs : (s t : Bool) (p q : ℕ) → 0 < q → not (beq s t) ≡ true → p % q ≢ 0
    → signed t (q - p % q) ≡ remainder_of (signed s p) (signed t q)
differs false false p q h differ some = absurd (false≢true differ)
differs false true p q h differ some = rest_some false p q h some
differs true false p q h differ some = rest_some true p q h some
differs true true p q h differ some = absurd (false≢true differ)

pub rest_differs : (s t : Bool) (p q rest : ℕ) → rest ≡ p % q → 0 < q → not (beq s t) ≡ true → rest ≢ 0
    → signed t (q - rest) ≡ remainder_of (signed s p) (signed t q)
rest_differs s t p q rest is h differ some =
    ap (λ v. signed t (q - v)) is ∙ differs s t p q h differ (λ none. some (is ∙ none))

-- and elsewhere
equals : (s t : Bool) (p q : ℕ) → 0 < q → not (beq s t) ≡ false → signed t (p % q)
    ≡ remainder_of (signed s p) (signed t q)
equals false false p q h equal = rest_same false p q h
equals false true p q h equal = absurd (false≢true (sym equal))
equals true false p q h equal = absurd (false≢true (sym equal))
equals true true p q h equal = rest_same true p q h

pub rest_equal : (s t : Bool) (p q rest : ℕ) → rest ≡ p % q → 0 < q → not (beq s t) ≡ false
    → signed t rest ≡ remainder_of (signed s p) (signed t q)
rest_equal s t p q rest is h equal = ap (λ v. signed t v) is ∙ equals s t p q h equal

without : (s t : Bool) (p q : ℕ) → 0 < q → p % q ≡ 0 → signed t (p % q) ≡ remainder_of (signed s p) (signed t q)
without false false p q h none = rest_same false p q h
without false true p q h none = rest_none false p q h none
without true false p q h none = rest_none true p q h none
without true true p q h none = rest_same true p q h

pub rest_without : (s t : Bool) (p q rest : ℕ) → rest ≡ p % q → 0 < q → rest ≡ 0
    → signed t rest ≡ remainder_of (signed s p) (signed t q)
rest_without s t p q rest is h none = ap (λ v. signed t v) is ∙ without s t p q h (sym is ∙ none)

-- what the code found, as the number
pub modulus_from : (s t : Bool) (m n d e k x y rest : ℕ) → 0 < n → k ≡ max d e → x ≡ m * 10 ^ (k - d)
    → y ≡ n * 10 ^ (k - e) → signed t rest ≡ remainder_of (signed s x) (signed t y)
    → number (signed t rest) k ≡ modulus_of (finite (signed s m) d) (finite (signed t n) e)
modulus_from s t m n d e k x y rest positive is_k is_x is_y is_rest =
    let not_zero : (unsigned_abs (signed t n) == 0) ≡ false = rw (abs_signed t n) (grind (arith, nat_tests)) in
    let left : scaled (signed s m) (k - d) ≡ signed s x =
    scaled_signed s m (10 ^ (k - d)) ∙ ap (λ v. signed s v) (sym is_x) in
    let right : scaled (signed t n) (k - e) ≡ signed t y =
    scaled_signed t n (10 ^ (k - e)) ∙ ap (λ v. signed t v) (sym is_y) in
    let both : remainder_of (scaled (signed s m) (k - d)) (scaled (signed t n) (k - e))
    ≡ signed t rest = ap (λ v. remainder_of v (scaled (signed t n) (k - e))) left
    ∙ ap (λ v. remainder_of (signed s x) v) right ∙ sym is_rest in
    let P : Bool → Type 0 = λ b. number (signed t rest) k
    ≡ (if b then asterisk else number (remainder_of (scaled (signed s m) (k - d)) (scaled (signed t n) (k - e)))
    k) in
    let Q : ℕ → Type 0 = λ v. number (signed t rest) k
    ≡ (if unsigned_abs (signed t n) == 0 then asterisk else number
    (remainder_of (scaled (signed s m) (v - d)) (scaled (signed t n) (v - e))) v) in
    subst Q is_k (subst P (sym not_zero) (ap (λ v. number v k) (sym both)))

-- of two numbers of as many decimals, neither below zero
pub modulus_above : (m n d : ℕ) → m < magnitude_limit → 0 < n → finite (pos (m % n)) d
    ≡ modulus_of (finite (pos m) d) (finite (pos n) d)
modulus_above m n d short positive =
    let none : d - d ≡ 0 = omega arith in
    let unit : 10 ^ (d - d) ≡ 1 = ap (λ k. 10 ^ k) none in
    let same : (v : ℕ) → v ≡ v * 10 ^ (d - d) =
    λ v. sym (ap (λ u. v * u) unit ∙ (let h : v * 1 ≡ v = omega arith in h)) in
    let fits : nat_lt (m % n) magnitude_limit ≡ true = lt-ltb (m % n) magnitude_limit (omega (arith, mod-le m n)) in
    ap (λ b. if b then finite (pos (m % n)) d else asterisk) (sym fits)
    ∙ modulus_from false false m n d d d m n (m % n) positive (omega arith) (same m) (same n)
    (rest_same false m n positive)

-- the floor is at most the quotient, and above it less one
pub floored_by-bounds : (p : ℤ) (q : ℕ) → 0 < q → IsFloor p q (floored_by p q)
floored_by-bounds (pos p) q positive =
    let e : p / q * q + p % q ≡ p = div-add-mod' p q in
    let small : p % q < q = mod-lt p positive in
    record { at_most = omega (arith, ints); greatest = omega (arith, ints) }
floored_by-bounds (negsuc p) zero positive = absurd (omega arith)
floored_by-bounds (negsuc p) (suc q) positive =
    let e : p / suc q * suc q + p % suc q ≡ p = div-add-mod' p (suc q) in
    let small : p % suc q < suc q = mod-lt p positive in
    record { at_most = omega (arith, ints); greatest = omega (arith, ints) }
