-- The laws of sums, products, rounding and fields.
use Rattle.std.proofs.Common.{◌≡◌, ℕ, suc, ◌+◌, ◌-◌, ◌*◌, ◌^◌, ◌<◌, ◌≤◌, max, Bool, true, false, List, ◌++◌, length}
use Rattle.std.proofs.Common.{replicate, refl, ap, ◌∙◌, zero-add, add_comm, length-append, arith}
use Rattle.std.specs.Prelude.{ℤ, pos, negsuc, ◌+ℤ◌, ◌*ℤ◌, unsigned_abs, nat_lt, nat_le, if◌then◌else◌}
use Rattle.std.proofs.Math.Nat.{max_comm, div-mul-le_self, lt-div-mul-add, one-le-pow}
use Rattle.std.proofs.lemmas.List.{length-replicate}
use Rattle.std.proofs.lemmas.Bool.{leb-true}
use lib.IntN.{+ℤ_comm, *ℤ_comm}
use Rattle.fixed_num.specs.Number.{Number, asterisk, finite, number, scaled, signed, magnitude_limit}
use Rattle.fixed_num.specs.Rounding.{nearest, IsNearest, rounded, rounded_at, rounded_to, places_within}
use Rattle.fixed_num.specs.Arithmetic.{sum_of, product_of, fitted}
use Rattle.fixed_num.specs.Text.{text_of, in_field, printed_in}
use Rattle.fixed_num.proofs.SignLemmas.{scaled_signed}
use Rattle.fixed_num.proofs.RoundLemmas.{nearest_one, nearest-mul_right, rounded_by_pos}

pub sum_of-comm : (x y : Number) → sum_of x y ≡ sum_of y x
sum_of-comm asterisk asterisk = refl
sum_of-comm asterisk (finite n e) = refl
sum_of-comm (finite m d) asterisk = refl
sum_of-comm (finite m d) (finite n e) =
    ap (λ k. number (scaled m (k - d) +ℤ scaled n (k - e)) k) (max_comm d e)
    ∙ ap (λ v. number v (max e d)) (+ℤ_comm (scaled m (max e d - d)) (scaled n (max e d - e)))

pub product_of-comm : (x y : Number) → product_of x y ≡ product_of y x
product_of-comm asterisk asterisk = refl
product_of-comm asterisk (finite n e) = refl
product_of-comm (finite m d) asterisk = refl
product_of-comm (finite m d) (finite n e) =
    ap (λ v. fitted v (d + e)) (*ℤ_comm m n) ∙ ap (fitted (n *ℤ m)) (add_comm d e)

pub IsNearest-nearest : (p q : ℕ) → 0 < q → IsNearest p q (nearest p q)
IsNearest-nearest p q positive =
    let down : nearest p q * (2 * q) ≤ 2 * p + q = div-mul-le_self (2 * p + q) (2 * q) in
    let up : 2 * p + q < nearest p q * (2 * q) + 2 * q = lt-div-mul-add (let h : 0 < 2 * q = omega arith in h) in
    record { not_above = omega arith; not_below = omega arith }

-- a whole number of units rounds to itself
whole_units : (n unit : ℕ) → 0 < unit → nearest (n * unit) unit ≡ n
whole_units n unit positive = ap (nearest (n * unit)) (let h : unit ≡ 1 * unit = omega arith in h)
    ∙ nearest-mul_right n 1 unit positive ∙ nearest_one n

rounded_scaled : (v : ℤ) (unit : ℕ) → 0 < unit → rounded (v *ℤ pos unit) (pos unit) ≡ v
rounded_scaled (pos n) unit positive = ap pos (whole_units n unit positive)
rounded_scaled (negsuc n) unit positive =
    ap (λ x. rounded x (pos unit)) (scaled_signed true (suc n) unit) ∙ rounded_by_pos true (suc n * unit) unit positive
    ∙ ap (signed true) (whole_units (suc n) unit positive)

-- rounding leaves alone what it gave, at places from 0 on
rounded_decimals : (p : ℕ) (v : ℤ) (b : Bool) → nat_lt (unsigned_abs v) magnitude_limit ≡ b
    → rounded_at (pos p) (if b then finite v p else asterisk) ≡ (if b then finite v p else asterisk)
rounded_decimals p v true e =
    let same : rounded (scaled v p) (pos (10 ^ p)) ≡ v = rounded_scaled v (10 ^ p) (one-le-pow p 10 (omega arith)) in
    ap (λ x. number x p) same ∙ ap (λ b. if b then finite v p else asterisk) e
rounded_decimals p v false e = refl

-- and below 0
rounded_multiple : (k : ℕ) (w : ℤ) (b : Bool) → nat_lt (unsigned_abs (scaled w (suc k))) magnitude_limit ≡ b
    → rounded_at (negsuc k) (if b then finite (scaled w (suc k)) 0 else asterisk)
    ≡ (if b then finite (scaled w (suc k)) 0 else asterisk)
rounded_multiple k w true e =
    let unit : 10 ^ (0 + suc k) ≡ 10 ^ suc k = ap (λ j. 10 ^ j) (zero-add (suc k)) in
    let same : rounded (scaled w (suc k)) (pos (10 ^ (0 + suc k))) ≡ w = ap (λ u. rounded (scaled w (suc k)) (pos u))
    unit ∙ rounded_scaled w (10 ^ suc k) (one-le-pow (suc k) 10 (omega arith)) in
    ap (λ x. number (scaled x (suc k)) 0) same ∙ ap (λ b. if b then finite (scaled w (suc k)) 0 else asterisk) e
rounded_multiple k w false e = refl

rounded_at-twice : (p : ℤ) (x : Number) → rounded_at p (rounded_at p x) ≡ rounded_at p x
rounded_at-twice (pos p) asterisk = refl
rounded_at-twice (negsuc k) asterisk = refl
rounded_at-twice (pos p) (finite m d) = rounded_decimals p (rounded (scaled m p) (pos (10 ^ d))) _ refl
rounded_at-twice (negsuc k) (finite m d) = rounded_multiple k (rounded m (pos (10 ^ (d + suc k)))) _ refl

pub rounded_to-twice : (p : ℤ) (x : Number) → rounded_to p (rounded_to p x) ≡ rounded_to p x
rounded_to-twice p x = rounded_at-twice (places_within p) x

-- a text in a field fills it
at_right-fits : (width : ℕ) (text : List ℕ) (b : Bool) → nat_le (length text) width ≡ b
    → length (if b then replicate (width - length text) 32 ++ text else replicate width 42) ≡ width
at_right-fits width text true e =
    length-append (replicate (width - length text) 32) text ∙ ap (λ n. n + length text)
    (length-replicate (width - length text) 32)
    ∙ (let h : width - length text + length text ≡ width = omega (arith, leb-true (length text) width e) in h)
at_right-fits width text false e = length-replicate width 42

in_field-fills : (width : ℕ) (x : Number) → length (in_field width x) ≡ width
in_field-fills width asterisk = length-replicate width 42
in_field-fills width (finite m d) = at_right-fits width (text_of (finite m d)) _ refl

pub printed-fills : (width decimals : ℕ) (x : Number) → length (printed_in width decimals x) ≡ width
printed-fills width decimals x = in_field-fills width (rounded_at (pos decimals) x)
