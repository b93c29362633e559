-- Signed whole numbers by sign and magnitude.
use Rattle.std.proofs.Common.{◌≡◌, ℕ, zero, suc, ◌*◌, Bool, true, false, not, refl, sym, ap, ◌∙◌}
use Rattle.std.specs.Prelude.{ℤ, pos, negsuc, neg_ℤ, ◌*ℤ◌, unsigned_abs}
use mathlib.Core.Bool.{beq}
use lib.IntN.{*ℤ-zero, *ℤ-negsuc, *ℤ_comm, neg_ℤ-neg_ℤ}
use Rattle.fixed_num.specs.Number.{signed}

pub mul-neg : (x y : ℤ) → x *ℤ neg_ℤ y ≡ neg_ℤ (x *ℤ y)
mul-neg x (pos zero) = *ℤ-zero x ∙ ap neg_ℤ (sym (*ℤ-zero x))
mul-neg x (pos (suc n)) = *ℤ-negsuc x n
mul-neg x (negsuc n) = sym (neg_ℤ-neg_ℤ (x *ℤ pos (suc n))) ∙ ap neg_ℤ (sym (*ℤ-negsuc x n))

pub neg-mul : (x y : ℤ) → neg_ℤ x *ℤ y ≡ neg_ℤ (x *ℤ y)
neg-mul x y = *ℤ_comm (neg_ℤ x) y ∙ mul-neg y x ∙ ap neg_ℤ (*ℤ_comm y x)

pub product_signed : (s t : Bool) (m n : ℕ) → signed s m *ℤ signed t n ≡ signed (not (beq s t)) (m * n)
product_signed false false m n = refl
product_signed false true m n = mul-neg (pos m) (pos n)
product_signed true false m n = neg-mul (pos m) (pos n)
product_signed true true m n =
    mul-neg (neg_ℤ (pos m)) (pos n) ∙ ap neg_ℤ (neg-mul (pos m) (pos n)) ∙ neg_ℤ-neg_ℤ (pos (m * n))

pub scaled_signed : (s : Bool) (m k : ℕ) → signed s m *ℤ pos k ≡ signed s (m * k)
scaled_signed false m k = refl
scaled_signed true m k = neg-mul (pos m) (pos k)

pub abs_signed : (s : Bool) (m : ℕ) → unsigned_abs (signed s m) ≡ m
abs_signed false m = refl
abs_signed true zero = refl
abs_signed true (suc m) = refl
