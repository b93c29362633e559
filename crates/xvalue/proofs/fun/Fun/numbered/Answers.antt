-- By the list of all functions.
use Rattle.std.specs.Prelude.{◌≡◌, ℕ, zero, suc, ◌-◌, slice_get, refl}
use Rattle.std.proofs.Common.{◌∙◌, ap, arith}
use Rattle.xvalue.specs.Signature.{all_functions, numbered}
use Rattle.xvalue.proofs.fun.Fun.numbered.Goals as goal

behind_zero : (n : ℕ) → (n ≡ 0 → ⊥) → slice_get all_functions (n - 1) ≡ numbered n
behind_zero zero h = absurd (h refl)
behind_zero (suc n) h = let e : suc n - 1 ≡ n = omega arith in ap (λ (k : ℕ). slice_get all_functions k) e

pub returns : goal.returns
returns c = c.nth.ensures ∙ behind_zero c.args.number c.if-number-eq0.false
