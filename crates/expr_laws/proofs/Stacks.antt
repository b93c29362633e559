-- Arguments on a stack are found in their order.
use Rattle.std.proofs.Common.{◌≡◌, ℕ, List, [], ◌∷◌, ◌++◌, length, take, drop, reverse, refl, sym, ap, ◌∙◌}
use Rattle.std.proofs.Math.Seq.{take-append_seam, drop-append_seam}
use Rattle.std.proofs.lemmas.List.{append_assoc, reverse-append, reverse-reverse, length-reverse}
use Rattle.xvalue.specs.declared.fun.Fun.{Fun}
use Rattle.xvalue.specs.declared.value.Value.{Value}
use Rattle.xvalue.specs.Signature.{takes_of}
use Rattle.run_values.specs.Tagged.{arguments_on}
use Rattle.expr_laws.proofs.Machines.{onto}

pub onto_is : {A : Type 0} (vs st : List A) → onto vs st ≡ reverse vs ++ st
onto_is {A} [] st = refl
onto_is {A} (v ∷ vs) st =
    onto_is vs (v ∷ st) ∙ sym (append_assoc (reverse vs) (v ∷ []) st)
    ∙ ap (λ (xs : List A). xs ++ st) (sym (reverse-append (v ∷ []) vs))

taken_back : (n : ℕ) (vs st : List Value) → n ≡ length vs → reverse (take n (onto vs st)) ≡ vs
taken_back n vs st e =
    let same : n ≡ length (reverse vs) = e ∙ sym (length-reverse vs) in
    ap (λ (m : ℕ). reverse (take m (onto vs st))) same
    ∙ ap (λ (xs : List Value). reverse (take (length (reverse vs)) xs)) (onto_is vs st)
    ∙ ap reverse (take-append_seam (reverse vs) st) ∙ reverse-reverse vs

dropped_back : (n : ℕ) (vs st : List Value) → n ≡ length vs → drop n (onto vs st) ≡ st
dropped_back n vs st e =
    let same : n ≡ length (reverse vs) = e ∙ sym (length-reverse vs) in
    ap (λ (m : ℕ). drop m (onto vs st)) same ∙ ap (λ (xs : List Value). drop (length (reverse vs)) xs) (onto_is vs st)
    ∙ drop-append_seam (reverse vs) st

pub arguments_back : (f : Fun) (vs st : List Value) → length (takes_of f) ≡ length vs → arguments_on f (onto vs st) ≡ vs
arguments_back f vs st e = taken_back (length (takes_of f)) vs st e

pub rest_back : (f : Fun) (vs st : List Value) → length (takes_of f) ≡ length vs
    → drop (length (takes_of f)) (onto vs st) ≡ st
rest_back f vs st e = dropped_back (length (takes_of f)) vs st e
