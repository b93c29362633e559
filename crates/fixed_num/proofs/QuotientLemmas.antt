-- A quotient by sign and magnitude.
use Rattle.std.proofs.Common.{◌≡◌, ℕ, ◌+◌, ◌-◌, ◌*◌, ◌^◌, ◌<◌, ◌≤◌, Bool, false, not, ◌==◌, refl, sym, ap, ◌∙◌, subst}
use Rattle.std.proofs.Common.{arith}
use Rattle.std.specs.Prelude.{unsigned_abs, nat_lt, if◌then◌else◌}
use mathlib.Core.Bool.{beq}
use Rattle.std.proofs.Math.Nat.{one-le-pow, mul-pos}
use Rattle.std.proofs.lemmas.Nat.{pow-add}
use Rattle.std.proofs.lemmas.Bool.Decides.{nat_tests}
use Rattle.fixed_num.specs.Number.{asterisk, finite, number, signed, scaled, magnitude_limit}
use Rattle.fixed_num.specs.Rounding.{nearest, rounded}
use Rattle.fixed_num.specs.Arithmetic.{quotient_of, quotient_decimals}
use Rattle.fixed_num.proofs.SignLemmas.{scaled_signed, abs_signed}
use Rattle.fixed_num.proofs.RoundLemmas.{rounded_signed, nearest-mul_right}

-- a magnitude that is too long
pub number_above : (s : Bool) (m d : ℕ) → magnitude_limit ≤ m → number (signed s m) d ≡ asterisk
number_above s m d long =
    let e : nat_lt (unsigned_abs (signed s m)) magnitude_limit ≡ false =
    rw (abs_signed s m) (grind (arith, nat_tests)) in
    let P : Bool → Type 0 = λ b. (if b then finite (signed s m) d else asterisk) ≡ asterisk in
    subst P (sym e) refl

-- the powers of both numbers reduce to one
pub rounded_quotient : (s t : Bool) (m n up d places : ℕ) → 0 < n → up ≡ places + d
    → rounded (scaled (signed s m) up) (scaled (signed t n) d) ≡ signed (not (beq s t)) (nearest (m * 10 ^ places) n)
rounded_quotient s t m n up d places positive e =
    let power : 0 < 10 ^ d = one-le-pow d 10 (omega arith) in
    let divisor : 0 < n * 10 ^ d = grind (arith, mul-pos) in
    let factor : m * 10 ^ up ≡ m * 10 ^ places * 10 ^ d = ap (λ k. m * 10 ^ k) e ∙ ap (λ x. m * x) (pow-add 10 places d)
    ∙ (let h : m * (10 ^ places * 10 ^ d) ≡ m * 10 ^ places * 10 ^ d = omega arith in h) in
    ap (λ x. rounded x (scaled (signed t n) d)) (scaled_signed s m (10 ^ up))
    ∙ ap (λ x. rounded (signed s (m * 10 ^ up)) x) (scaled_signed t n (10 ^ d))
    ∙ rounded_signed s t (m * 10 ^ up) (n * 10 ^ d) divisor
    ∙ ap (λ x. signed (not (beq s t)) x)
    (ap (λ x. nearest x (n * 10 ^ d)) factor ∙ nearest-mul_right (m * 10 ^ places) n (10 ^ d) power)

pub quotient_signed : (s t : Bool) (m n d e places : ℕ) → 0 < n → places ≡ quotient_decimals d e - d + e
    → quotient_of (finite (signed s m) d) (finite (signed t n) e) ≡ number
    (signed (not (beq s t)) (nearest (m * 10 ^ places) n)) (quotient_decimals d e)
quotient_signed s t m n d e places positive is_places =
    let k = quotient_decimals d e in
    let not_zero : (unsigned_abs (signed t n) == 0) ≡ false = rw (abs_signed t n) (grind (arith, nat_tests)) in
    let whole = rounded_quotient s t m n (k + e) d places positive (omega arith) in
    let P : Bool → Type 0 = λ b.
    (if b then asterisk else number (rounded (scaled (signed s m) (k + e)) (scaled (signed t n) d)) k)
    ≡ number (signed (not (beq s t)) (nearest (m * 10 ^ places) n)) k in
    subst P (sym not_zero) (ap (λ x. number x k) whole)

-- what the code computed, as the quotient
pub quotient_from : (s t : Bool) (m n d e k kept : ℕ) → 0 < n → k ≡ quotient_decimals d e
    → kept ≡ nearest (m * 10 ^ (k - d + e)) n → number (signed (not (beq s t)) kept) k
    ≡ quotient_of (finite (signed s m) d) (finite (signed t n) e)
quotient_from s t m n d e k kept positive is_k is_kept =
    let q = quotient_signed s t m n d e (k - d + e) positive (ap (λ x. x - d + e) is_k) in
    ap (λ x. number (signed (not (beq s t)) x) k) is_kept
    ∙ ap (λ x. number (signed (not (beq s t)) (nearest (m * 10 ^ (k - d + e)) n)) x) is_k ∙ sym q

-- a quotient that is too long
pub quotient_above : (s t : Bool) (m n d e k : ℕ) → 0 < n → k ≡ quotient_decimals d e
    → magnitude_limit ≤ nearest (m * 10 ^ (k - d + e)) n → asterisk
    ≡ quotient_of (finite (signed s m) d) (finite (signed t n) e)
quotient_above s t m n d e k positive is_k long =
    sym (number_above (not (beq s t)) (nearest (m * 10 ^ (k - d + e)) n) k long)
    ∙ quotient_from s t m n d e k (nearest (m * 10 ^ (k - d + e)) n) positive is_k refl
