-- Items by their numbers.
use Rattle.std.proofs.Common.{◌≡◌, ℕ, zero, suc, ◌<◌, List, [], ◌∷◌, ◌++◌, length, length-append, Option, Some, None}
use Rattle.std.proofs.Common.{sym, ap, ◌∙◌, subst, refl, arith}
use Rattle.std.specs.Prelude.{slice_get}
use Rattle.std.specs.List.{All}
use Rattle.std.proofs.lemmas.List.Elements.{All-head, All-push, All-tail, All-weaker}
use Rattle.std.proofs.lemmas.Option.{slice_get_within}
use Rattle.prg_laid.specs.ByNumber.{by_number, in_front}

-- a number below the length names an item
pub there : {A : Type 0} (items : List A) (n : ℕ) → n < length items → (x : A) × (slice_get items n ≡ Some x)
there [] n b = absurd (omega (arith, b))
there (x ∷ items) zero b = (x, refl)
there (x ∷ items) (suc n) b = there items n (omega (arith, b))

same_left : {A : Type 0} (items more : List A) (n : ℕ) → n < length items
    → slice_get (items ++ more) n ≡ slice_get items n
same_left [] more n b = absurd (omega (arith, b))
same_left (x ∷ items) more zero b = refl
same_left (x ∷ items) more (suc n) b = same_left items more n (omega (arith, b))

-- items behind the others change nothing
pub extended : {A : Type 0} (items more : List A) (ns : List ℕ) → All (λ (n : ℕ). n < length items) ns
    → by_number (items ++ more) ns ≡ by_number items ns
unfolding by_number
extended items more [] h = refl
extended items more (n ∷ ns) h =
    ap (λ o. in_front o (by_number (items ++ more) ns))
    (same_left items more n (All-head (λ (n : ℕ). n < length items) n ns h))
    ∙ ap (in_front (slice_get items n)) (extended items more ns (All-tail (λ (n : ℕ). n < length items) n ns h))

behind_front : {A : Type 0} (o : Option A) (xs : List A) (x : A) → in_front o (xs ++ x ∷ []) ≡ in_front o xs ++ x ∷ []
behind_front None xs x = refl
behind_front (Some y) xs x = refl

-- one more number
pub one_more : {A : Type 0} (items : List A) (ns : List ℕ) (n : ℕ) (x : A) → slice_get items n ≡ Some x
    → by_number items (ns ++ n ∷ []) ≡ by_number items ns ++ x ∷ []
unfolding by_number
one_more items [] n x e = ap (λ o. in_front o []) e
one_more items (m ∷ ns) n x e =
    ap (in_front (slice_get items m)) (one_more items ns n x e)
    ∙ behind_front (slice_get items m) (by_number items ns) x

same_number : (n m : ℕ) → Some m ≡ Some n → m ≡ n
same_number n m e = cc

none_number : {P : Type 0} (n : ℕ) (o : Option ℕ) → o ≡ None → o ≡ Some n → P
none_number n o e f = absurd (let k = e in cc)

-- what is found under a number
pub found : {A : Type 0} (items : List A) (ns : List ℕ) (i n : ℕ) (x : A) → All (λ (n : ℕ). n < length items) ns
    → slice_get ns i ≡ Some n → slice_get items n ≡ Some x
    → slice_get (by_number items ns) i ≡ Some x
unfolding by_number
found items [] i n x h e f = none_number n (slice_get [] i) refl e
found items (m ∷ ns) zero n x h e f =
    ap (λ o. slice_get (in_front o (by_number items ns)) zero) (ap (slice_get items) (same_number n m e) ∙ f)
found items (m ∷ ns) (suc i) n x h e f =
    let t = there items m (All-head (λ (n : ℕ). n < length items) m ns h) in
    ap (λ o. slice_get (in_front o (by_number items ns)) (suc i)) t.1
    ∙ found items ns i n x (All-tail (λ (n : ℕ). n < length items) m ns h) e f

longer : {A : Type 0} (items more : List A) (n : ℕ) → n < length items → n < length (items ++ more)
longer items more n b = subst (λ (k : ℕ). n < k) (sym (length-append items more)) (omega (arith, b))

-- numbers stay below a longer length
pub all_below : {A : Type 0} (items more all : List A) (ns : List ℕ) → all ≡ items ++ more
    → All (λ (n : ℕ). n < length items) ns → All (λ (n : ℕ). n < length all) ns
all_below items more all ns e h =
    All-weaker (λ (n : ℕ). n < length items) (λ (n : ℕ). n < length all)
    (λ n b. subst (λ l. n < length l) (sym e) (longer items more n b)) ns h

pub none : {A : Type 0} (items : List A) → by_number items [] ≡ []
unfolding by_number
none items = refl

-- a number that names an item behind the others keeps all numbers below the length
pub one_more_below : {A : Type 0} (items more all : List A) (ns ms : List ℕ) (n : ℕ) (x : A) → all ≡ items ++ more
    → ms ≡ ns ++ n ∷ [] → slice_get all n ≡ Some x → All (λ (n : ℕ). n < length items) ns
    → All (λ (n : ℕ). n < length all) ms
one_more_below items more all ns ms n x e m t h =
    subst (λ (ks : List ℕ). All (λ (n : ℕ). n < length all) ks) (sym m)
    (All-push (λ (n : ℕ). n < length all) ns n (all_below items more all ns e h) (slice_get_within all n x t))

-- and is one more item of the list
pub one_more_item : {A : Type 0} (items more all : List A) (ns ms : List ℕ) (n : ℕ) (x : A) (seen : List A)
    → all ≡ items ++ more → ms ≡ ns ++ n ∷ [] → slice_get all n ≡ Some x → All (λ (n : ℕ). n < length items) ns
    → by_number items ns ≡ seen
    → by_number all ms ≡ seen ++ x ∷ []
one_more_item items more all ns ms n x seen e m t h v =
    ap (by_number all) m ∙ one_more all ns n x t
    ∙ ap (λ xs. xs ++ x ∷ []) (ap (λ ks. by_number ks ns) e ∙ extended items more ns h ∙ v)
