-- Lines without a line end, put together from parts.
use Rattle.std.proofs.Common.{◌≡◌, ◌+◌, ◌++◌, ◌==◌, not, arith, cond, length, refl, suc, subst, sym, take, ℕ, List, []}
use Rattle.std.proofs.Common.{◌∷◌, Bool, true, false}
use Rattle.operator_desk.specs.Held.{line_length, first_line}

passes_more : (t : Bool) (a b n m : ℕ) → cond t (1 + a) 0 ≡ 1 + n → (a ≡ n → b ≡ m) → cond t (1 + b) 0 ≡ 1 + m
passes_more true a b n m h f = let e = f (omega (arith, h)) in omega (arith, e)
passes_more false a b n m h f = absurd (omega (arith, h))

-- behind a text without an end another one without an end
pub no_end_joined : (line more : List ℕ) → line_length line ≡ length line → line_length more ≡ length more
    → line_length (line ++ more) ≡ length (line ++ more)
no_end_joined [] more h k = k
no_end_joined (b ∷ line) more h k =
    let e =
    passes_more (not (b == 10)) (line_length line) (line_length (line ++ more)) (length line)
    (length (line ++ more)) (subst (λ n. line_length (b ∷ line) ≡ n) (omega arith) h)
    (λ s. no_end_joined line more s k) in
    subst (λ n. line_length (b ∷ (line ++ more)) ≡ n) (omega arith) e

front_step : (b : ℕ) (text : List ℕ) (t : Bool) → not (b == 10) ≡ t
    → line_length (first_line text) ≡ length (first_line text)
    → line_length (take (cond t (1 + line_length text) 0) (b ∷ text))
    ≡ length (take (cond t (1 + line_length text) 0) (b ∷ text))
front_step b text false is h = refl
front_step b text true is h =
    let one : 1 + line_length text ≡ suc (line_length text) = omega arith in
    let goes : line_length (b ∷ first_line text) ≡ length (b ∷ first_line text) =
    subst (λ (t : Bool). cond t (1 + line_length (first_line text)) 0 ≡ length (b ∷ first_line text)) (sym is)
    (omega (arith, h)) in
    subst (λ (n : ℕ). line_length (take n (b ∷ text)) ≡ length (take n (b ∷ text))) (sym one) goes

-- what comes before the first line end has none
pub no_end_in_first : (text : List ℕ) → line_length (first_line text) ≡ length (first_line text)
no_end_in_first [] = refl
no_end_in_first (b ∷ text) = front_step b text (not (b == 10)) refl (no_end_in_first text)
