-- Tests along two lists, as chains of iterators make them.
use Rattle.std.proofs.Common.{◌≡◌, ◌≢◌, ◌<◌, ◌≤◌, ◌-◌, ℕ, zero, suc, refl, ap, sym, ◌∙◌, Bool, false, not, ◌||◌}
use Rattle.std.proofs.Common.{◌&&◌, List, [], ◌∷◌, ◌++◌, ◌+◌, length, take, drop, set, replicate, arith}
use Rattle.std.proofs.lemmas.List.{length-reverse, length-drop, take-append-drop, reverse-append}
use Rattle.std.specs.Prelude.{reverse}
use Rattle.std.specs.List.{list_any, list_all, zip}
use Rattle.std.proofs.lemmas.Bool.{and_right}
use Rattle.xvalue.specs.declared.kind.Kind.{Kind}
use Rattle.xvalue.specs.Kinds.{same_kind}
use Rattle.code_items.specs.Pairs.{along}
use Rattle.code_items.specs.Kinds.{clashes, other_kind, same_kinds, same_pair, kinds_covered}

pub all_along : {A : Type 0} (test : A × A → Bool) (as' bs : List A) → length as' ≡ length bs
    → list_all test (zip as' bs) ≡ along test as' bs
all_along test [] [] e = refl
all_along test (a ∷ as') [] e = absurd (omega (arith, e))
all_along test [] (b ∷ bs) e = absurd (omega (arith, e))
all_along test (a ∷ as') (b ∷ bs) e = ap (λ t. test (a, b) && t) (all_along test as' bs (omega (arith, e)))

pub not_along : {A : Type 0} (test : A × A → Bool) (as' bs : List A) → length as' ≢ length bs
    → along test as' bs ≡ false
not_along test [] [] e = absurd (e refl)
not_along test (a ∷ as') [] e = refl
not_along test [] (b ∷ bs) e = refl
not_along test (a ∷ as') (b ∷ bs) e =
    rw (not_along test as' bs (λ f. e (omega (arith, f)))) (and_right (test (a, b)) false refl)

pub any_other : (kinds there : List Kind) → list_any other_kind (zip there kinds) ≡ clashes kinds there
any_other [] [] = refl
any_other [] (top ∷ there) = refl
any_other (kind ∷ kinds) [] = refl
any_other (kind ∷ kinds) (top ∷ there) = ap (λ b. not (same_kind top kind) || b) (any_other kinds there)

-- a map's stack without its top values
pub covered_drop : (n : ℕ) (map there : List Kind) → n ≤ length map
    → kinds_covered n map there ≡ same_kinds (drop n map) there
covered_drop zero map there e = refl
covered_drop (suc n) [] there e = absurd (omega arith)
covered_drop (suc n) (kind ∷ map) there e = covered_drop n map there (omega (arith, e))

pub covered_short : (n : ℕ) (map there : List Kind) → length map < n → kinds_covered n map there ≡ false
covered_short zero map there e = absurd (omega (arith, e))
covered_short (suc n) [] there e = refl
covered_short (suc n) (kind ∷ map) there e = covered_short n map there (omega (arith, e))

pub all_same_back : (as' bs : List Kind) → length as' ≡ length bs → list_all same_pair (zip (reverse as') (reverse bs))
    ≡ same_kinds (reverse as') (reverse bs)
all_same_back as' bs e = all_along same_pair (reverse as') (reverse bs)
    (length-reverse as' ∙ (e ∙ sym (length-reverse bs)))

pub not_same_back : (as' bs : List Kind) → length as' ≢ length bs → same_kinds (reverse as') (reverse bs) ≡ false
not_same_back as' bs e = not_along same_pair (reverse as') (reverse bs)
    (λ f. e (sym (length-reverse as') ∙ (f ∙ length-reverse bs)))

drop_front : (xs ys : List Kind) → drop (length xs) (xs ++ ys) ≡ ys
drop_front [] ys = refl
drop_front (x ∷ xs) ys = drop_front xs ys

-- a stack kept with the top last, without its top values
reverse_take : (n k : ℕ) (v : List Kind) → n + k ≡ length v → reverse (take k v) ≡ drop n (reverse v)
reverse_take n k v e =
    let parts : reverse v ≡ reverse (drop k v) ++ reverse (take k v) = ap reverse (sym (take-append-drop k v))
    ∙ reverse-append (take k v) (drop k v) in
    let height : length (reverse (drop k v)) ≡ n = length-reverse (drop k v) ∙ (length-drop k v ∙ omega (arith, e)) in
    rw (parts, ← height) (sym (drop_front (reverse (drop k v)) (reverse (take k v))))

pub covered_below : (n : ℕ) (v : List Kind) (there : List Kind) → n ≤ length v
    → same_kinds (reverse (take (length v - n) v)) there ≡ kinds_covered n (reverse v) there
covered_below n v there e =
    let high : n ≤ length (reverse v) = rw length-reverse e in
    let same : reverse (take (length v - n) v) ≡ drop n (reverse v) = reverse_take n (length v - n) v (omega arith) in
    rw same (sym (covered_drop n (reverse v) there high))

pub not_covered_below : (n : ℕ) (v : List Kind) (there : List Kind) → length v < n
    → kinds_covered n (reverse v) there ≡ false
not_covered_below n v there e = covered_short n (reverse v) there (rw length-reverse e)

-- a list that is filled from the front
pub fill_next : {A : Type 0} (n : ℕ) (x : A) (xs : List A) → n < length xs
    → set (replicate n x ++ drop n xs) n x ≡ replicate (suc n) x ++ drop (suc n) xs
fill_next zero x [] lt = absurd (omega arith)
fill_next zero x (y ∷ xs) lt = refl
fill_next (suc n) x [] lt = absurd (omega arith)
fill_next (suc n) x (y ∷ xs) lt = ap (λ l. x ∷ l) (fill_next n x xs (omega arith))
