-- Constants that have a number are met among the constants.
use Rattle.std.proofs.Common.{◌≡◌, zero, suc, ap, ◌∙◌, true, ◌||◌, List, [], ◌∷◌, Option, unwrap_or, refl}
use Rattle.std.specs.List.{list_any}
use Rattle.std.proofs.lemmas.Bool.{or_right}
use Rattle.xvalue.specs.declared.value.Value.{Value}
use Rattle.prg_code.specs.Pools.{HasConstant, is_one_constant, is_one_constant-refl}

pub met : (xs : List Value) (v : Value) → HasConstant xs v → list_any (is_one_constant v) xs ≡ true
met [] v (n, e) = absurd (let k = e in cc)
met (x ∷ xs) v (zero, e) =
    ap (λ b. b || list_any (is_one_constant v) xs)
    (ap (is_one_constant v) (ap (λ (o : Option Value). unwrap_or o v) e) ∙ is_one_constant-refl v)
met (x ∷ xs) v (suc n, e) =
    ap (λ b. is_one_constant v x || b) (met xs v (n, e)) ∙ or_right (is_one_constant v x) true refl
