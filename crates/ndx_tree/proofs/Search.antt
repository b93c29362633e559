-- Searches.
use Rattle.std.proofs.Common.{◌≡◌, ℕ, suc, Some, None, Option, true, false, cond, ◌<◌, ◌≤◌, List, [], ◌∷◌, ◌++◌, length}
use Rattle.std.proofs.Common.{take, drop, reverse, not, Bool, ◌+◌, ltb, eqb, ⊎_elim, get_or, refl, ap, sym, ◌∙◌, arith}
use Rattle.std.proofs.lemmas.List.{append-nil, reverse-append, length-reverse}
use Rattle.std.proofs.lemmas.Bool.{false_from_ne_true, false≢true, lt-ltb, le-ltb, cases_lt}
use Rattle.std.proofs.lemmas.Cmp.{nat_list_cmp_total}
use Rattle.std.specs.List.{filter}
use Rattle.std.specs.declared.cmp.Ordering.TheVariants.{Less, Equal, Greater}
use Rattle.std.specs.Ordering.{is_lt, nat_cmp, ordering_then, ordering_reverse}
use Rattle.std.specs.Cmp.Lexicographic.{slice_cmp}
use Rattle.key_lists.specs.Order.{Each, first, above, below}
use Rattle.key_lists.specs.Pairs.{key_before, pairs_from}
use Rattle.key_lists.proofs.Ordered.{Each-map, below-parted}
use Rattle.key_lists.specs.Pairs.{Pair, is_before}
use Rattle.key_lists.specs.Rising.{AllBefore, IsRising, place_of, last_of, first_from, last_below}
use Rattle.ndx_tree.specs.Pages.{PageView, pairs_of_pages, IsCut}
use Rattle.key_lists.proofs.Rises.{last_back, last_only, before_trans, rising_front, rising_back, rising_before_last}

pub first_at_place : (x : Pair) (l : List Pair) (d : Pair) → place_of x l < length l
    → first_from x l ≡ Some (get_or l (place_of x l) d)
first_at_place x [] d p = absurd (omega arith)
first_at_place x (y ∷ l) d p =
    (elim (is_before y x) as (λ b. cond b (suc (place_of x l)) 0 < length (y ∷ l)
    → cond b (first_from x l) (Some y) ≡ Some (get_or (y ∷ l) (cond b (suc (place_of x l)) 0) d)) [
      | true ↦ λ p. first_at_place x l d (omega arith)
      | false ↦ λ p. refl
    ]) p

pub none_at_place : (x : Pair) (l : List Pair) → length l ≤ place_of x l → first_from x l ≡ None
none_at_place x [] p = refl
none_at_place x (y ∷ l) p =
    (elim (is_before y x) as (λ b. length (y ∷ l) ≤ cond b (suc (place_of x l)) 0
    → cond b (first_from x l) (Some y) ≡ None) [
      | true ↦ λ p. none_at_place x l (omega arith)
      | false ↦ λ p. absurd (omega arith)
    ]) p

first_behind : (x : Pair) (l r : List Pair) → AllBefore l x → first_from x (l ++ r) ≡ first_from x r
first_behind x [] r a = refl
first_behind x (y ∷ l) r a = rw a.0 (first_behind x l r a.1)

first_within : (x s : Pair) (l r : List Pair) → last_of l ≡ Some s → is_before s x ≡ false
    → first_from x (l ++ r) ≡ first_from x l
first_within x s [] r e p = absurd cc
first_within x s (y ∷ []) r e p =
    let q : y ≡ s = cc in let h : is_before y x ≡ false = ap (λ (v : Pair). is_before v x) q ∙ p in rw h refl
first_within x s (y ∷ z ∷ l) r e p =
    ap (λ (o : Option Pair). cond (is_before y x) o (Some y)) (first_within x s (z ∷ l) r e p)

-- the search goes into one child alone
pub first_in_child : (x : Pair) (ss : List Pair) (cs : List PageView) (d : PageView) → IsCut ss cs
    → IsRising (pairs_of_pages cs) → first_from x (pairs_of_pages cs) ≡ first_from x (get_or cs (place_of x ss) d).pairs
first_in_child x [] [] d h r = absurd h
first_in_child x [] (c ∷ []) d h r = ap (first_from x) (append-nil c.pairs)
first_in_child x [] (c ∷ b ∷ cs) d h r = absurd h
first_in_child x (s ∷ ss) [] d h r = absurd h
first_in_child x (s ∷ ss) (c ∷ cs) d h r =
    (elim (is_before s x) as (λ b. is_before s x ≡ b → first_from x (pairs_of_pages (c ∷ cs))
    ≡ first_from x (get_or (c ∷ cs) (cond b (suc (place_of x ss)) 0) d).pairs) [
      | true ↦ λ p. first_behind x c.pairs (pairs_of_pages cs)
          (rising_before_last s x c.pairs h.0 (rising_front c.pairs _ r) p)
          ∙ first_in_child x ss cs d h.1 (rising_back c.pairs _ r)
      | false ↦ λ p. first_within x s c.pairs (pairs_of_pages cs) h.0 p
    ]) refl

-- what stands before x at the front

taken_behind : (x : Pair) (l r : List Pair) → AllBefore l x → take (place_of x (l ++ r)) (l ++ r)
    ≡ l ++ take (place_of x r) r
taken_behind x [] r a = refl
taken_behind x (y ∷ l) r a = rw a.0 (ap (λ (m : List Pair). y ∷ m) (taken_behind x l r a.1))

taken_within : (x s : Pair) (l r : List Pair) → last_of l ≡ Some s → is_before s x ≡ false
    → take (place_of x (l ++ r)) (l ++ r) ≡ take (place_of x l) l
taken_within x s [] r e p = absurd cc
taken_within x s (y ∷ []) r e p =
    let q : y ≡ s = cc in let h : is_before y x ≡ false = ap (λ (v : Pair). is_before v x) q ∙ p in rw h refl
taken_within x s (y ∷ z ∷ l) r e p =
    elim (is_before y x) as (λ b. take (cond b (suc (place_of x ((z ∷ l) ++ r))) 0) (y ∷ (z ∷ l) ++ r)
    ≡ take (cond b (suc (place_of x (z ∷ l))) 0) (y ∷ z ∷ l)) [
      | true ↦ ap (λ (m : List Pair). y ∷ m) (taken_within x s (z ∷ l) r e p)
      | false ↦ refl
    ]

-- the last of two lists
abbrev or_last : Option Pair → Option Pair → Option Pair
or_last None b = b
or_last (Some v) b = Some v

last_is : (y : Pair) (r : List Pair) (b : Option Pair) → or_last (last_of (y ∷ r)) b ≡ last_of (y ∷ r)
last_is y [] b = refl
last_is y (z ∷ r) b = last_is z r b

last_append : (l m : List Pair) → last_of (l ++ m) ≡ or_last (last_of m) (last_of l)
last_append l [] = ap last_of (append-nil l)
last_append l (y ∷ m) = last_only l y m ∙ sym (last_is y m (last_of l))

-- what the child at x's place finds below x, the page finds
pub below_in_child : (x t : Pair) (ss : List Pair) (cs : List PageView) (d : PageView) → IsCut ss cs
    → IsRising (pairs_of_pages cs) → last_below x (get_or cs (place_of x ss) d).pairs ≡ Some t
    → last_below x (pairs_of_pages cs) ≡ Some t
below_in_child x t [] [] d h r e = absurd h
below_in_child x t [] (c ∷ []) d h r e = ap (last_below x) (append-nil c.pairs) ∙ e
below_in_child x t [] (c ∷ b ∷ cs) d h r e = absurd h
below_in_child x t (s ∷ ss) [] d h r e = absurd h
below_in_child x t (s ∷ ss) (c ∷ cs) d h r e =
    (elim (is_before s x) as (λ b. is_before s x ≡ b → last_below x
    (get_or (c ∷ cs) (cond b (suc (place_of x ss)) 0) d).pairs ≡ Some t
    → last_below x (pairs_of_pages (c ∷ cs)) ≡ Some t) [
      | true ↦ λ p e. ap last_of (taken_behind x c.pairs (pairs_of_pages cs)
          (rising_before_last s x c.pairs h.0 (rising_front c.pairs _ r) p))
          ∙ last_back t c.pairs _ (below_in_child x t ss cs d h.1 (rising_back c.pairs _ r) e)
      | false ↦ λ p e. ap last_of (taken_within x s c.pairs (pairs_of_pages cs) h.0 p) ∙ e
    ]) refl e

-- where it finds none, the separator before the child is what the page finds
pub below_at_place : (x : Pair) (ss : List Pair) (cs : List PageView) (d : PageView) → IsCut ss cs
    → IsRising (pairs_of_pages cs) → last_below x (get_or cs (place_of x ss) d).pairs ≡ None
    → last_below x (pairs_of_pages cs) ≡ last_of (take (place_of x ss) ss)
below_at_place x [] [] d h r e = absurd h
below_at_place x [] (c ∷ []) d h r e = ap (last_below x) (append-nil c.pairs) ∙ e
below_at_place x [] (c ∷ b ∷ cs) d h r e = absurd h
below_at_place x (s ∷ ss) [] d h r e = absurd h
below_at_place x (s ∷ ss) (c ∷ cs) d h r e =
    (elim (is_before s x) as (λ b. is_before s x ≡ b → last_below x
    (get_or (c ∷ cs) (cond b (suc (place_of x ss)) 0) d).pairs ≡ None
    → last_below x (pairs_of_pages (c ∷ cs)) ≡ last_of (take (cond b (suc (place_of x ss)) 0) (s ∷ ss))) [
      | true ↦ λ p e.
          ap last_of (taken_behind x c.pairs (pairs_of_pages cs)
          (rising_before_last s x c.pairs h.0 (rising_front c.pairs _ r) p))
          ∙ last_append c.pairs (take (place_of x (pairs_of_pages cs)) (pairs_of_pages cs))
          ∙ ap (λ (o : Option Pair). or_last o (last_of c.pairs))
          (below_at_place x ss cs d h.1 (rising_back c.pairs _ r) e)
          ∙ ap (or_last (last_of (take (place_of x ss) ss))) h.0
          ∙ sym (last_append (s ∷ []) (take (place_of x ss) ss))
      | false ↦ λ p e. ap last_of (taken_within x s c.pairs (pairs_of_pages cs) h.0 p) ∙ e
    ]) refl e

-- ---- searches of a whole list

lt_is : (a b : ℕ) → is_lt (nat_cmp a b) ≡ ltb a b
lt_is a b = elim (ltb a b) as (λ t. is_lt (cond t Less (cond (eqb a b) Equal Greater))
    ≡ t) [
      | true ↦ refl
      | false ↦ elim (eqb a b) as
          (λ t. is_lt (cond t Equal Greater) ≡ false) [ true ↦ refl | false ↦ refl ]
    ]

not_below_zero : (n : ℕ) → is_lt (nat_cmp n 0) ≡ false
not_below_zero n = lt_is n 0 ∙ le-ltb n 0 (omega arith)

next_number : (m n : ℕ) → not (is_lt (nat_cmp n (m + 1))) ≡ is_lt (nat_cmp m n)
next_number m n =
    ap not (lt_is n (m + 1)) ∙ ⊎_elim (λ p. let a : ltb n (m + 1) ≡ false = le-ltb n (m + 1) (omega arith) in
    let b : ltb m n ≡ true = lt-ltb m n p in rw (a, b) refl)
    (λ p. let a : ltb n (m + 1) ≡ true = lt-ltb n (m + 1) (omega arith) in let b : ltb m n
    ≡ false = le-ltb m n p in rw (a, b) refl) (cases_lt m n) ∙ sym (lt_is m n)

pub filter_same : {X : Type 0} (p q : X → Bool) → ((x : X) → p x ≡ q x) → (xs : List X) → filter p xs ≡ filter q xs
filter_same p q e [] = refl
filter_same p q e (x ∷ xs) =
    ap (λ b. cond b (x ∷ filter p xs) (filter p xs)) (e x) ∙ ap (λ ys. cond (q x) (x ∷ ys) ys) (filter_same p q e xs)

pub first_from_is : (x : Pair) (l : List Pair) → first_from x l ≡ first (filter (λ p. not (is_before p x)) l)
first_from_is x [] = refl
first_from_is x (y ∷ l) =
    elim (is_before y x) as (λ b. cond b (first_from x l) (Some y) ≡ first
    (cond (not b) (y ∷ filter (λ p. not (is_before p x)) l) (filter (λ p. not (is_before p x)) l))) [
      | true ↦ first_from_is x l
      | false ↦ refl
    ]

-- before a key with the number 0 stands what has a key below it
pub key_zero : (p : Pair) (key : List ℕ) → is_before p (key, 0) ≡ key_before p.0 key
unfolding is_before key_before
key_zero p key = elim (slice_cmp nat_cmp p.0 key) as
    (λ o. is_lt (ordering_then o (nat_cmp p.1 0)) ≡ is_lt o) [
      | Less ↦ refl
      | Equal ↦ not_below_zero p.1
      | Greater ↦ refl
    ]

-- not before the number after x's is what stands after x
pub after_next : (x p : Pair) → not (is_before p (x.0, x.1 + 1)) ≡ is_before x p
unfolding is_before
after_next x p =
    elim (slice_cmp nat_cmp x.0 p.0) as
    (λ o. slice_cmp nat_cmp x.0 p.0 ≡ o → not
    (is_lt (ordering_then (slice_cmp nat_cmp p.0 x.0) (nat_cmp p.1 (x.1 + 1))))
    ≡ is_lt (ordering_then o (nat_cmp x.1 p.1))) [
      | Less ↦ λ e. let r : slice_cmp nat_cmp p.0 x.0 ≡ Greater =
          nat_list_cmp_total.antisymm p.0 x.0 ∙ ap ordering_reverse e in rw r refl
      | Equal ↦ λ e. let r : slice_cmp nat_cmp p.0 x.0 ≡ Equal =
          nat_list_cmp_total.antisymm p.0 x.0 ∙ ap ordering_reverse e in rw r (next_number x.1 p.1)
      | Greater ↦ λ e. let r : slice_cmp nat_cmp p.0 x.0 ≡ Less =
          nat_list_cmp_total.antisymm p.0 x.0 ∙ ap ordering_reverse e in rw r refl
    ] refl

-- nothing stands before the empty key with the number 0
pub nothing_before : (p : Pair) → is_before p ([], 0) ≡ false
unfolding is_before
nothing_before p = elim p.0 as (λ k. is_lt (ordering_then (slice_cmp nat_cmp k []) (nat_cmp p.1 0))
    ≡ false) [ [] ↦ not_below_zero p.1 | b ∷ k ↦ refl ]

-- what stands at the front before x, and what does not
pub place_front : (x : Pair) (l : List Pair) → Each (λ y. is_before y x ≡ true) (take (place_of x l) l)
place_front x [] = tt
place_front x (y ∷ l) =
    elim (is_before y x) as (λ b. is_before y x ≡ b → Each (λ y. is_before y x ≡ true)
    (take (cond b (suc (place_of x l)) 0) (y ∷ l))) [
      | true ↦ λ e. (e, place_front x l)
      | false ↦ λ e. tt
    ] refl

pub place_rest : (x : Pair) (l : List Pair) → IsRising l → Each (λ y. is_before y x ≡ false) (drop (place_of x l) l)
place_rest x [] r = tt
place_rest x (y ∷ l) r =
    elim (is_before y x) as (λ b. is_before y x ≡ b → Each (λ y. is_before y x ≡ false)
    (drop (cond b (suc (place_of x l)) 0) (y ∷ l))) [
      | true ↦ λ e. place_rest x l r.1
      | false ↦ λ e. (
        e,
        Each-map (λ z. is_before y z ≡ true) (λ z. is_before z x ≡ false)
            (λ z f. false_from_ne_true (is_before z x) (λ g. false≢true (sym e ∙ before_trans y z x f g))) l r.0,
      )
    ] refl

first_front : (a b : List Pair) → 0 < length a → first (a ++ b) ≡ first a
first_front [] b n = absurd (omega arith)
first_front (x ∷ a) b n = refl

pub last_reverse : (l : List Pair) → last_of l ≡ first (reverse l)
last_reverse [] = refl
last_reverse (y ∷ []) = refl
last_reverse (y ∷ z ∷ l) = last_reverse (z ∷ l)
    ∙ sym (ap first (reverse-append (y ∷ []) (z ∷ l)) ∙ first_front (reverse (z ∷ l)) (y ∷ [])
    (omega (arith, length-reverse (z ∷ l))))

pub last_below_is : (x : Pair) (l : List Pair) → IsRising l → last_below x l ≡ first (below is_before x l)
last_below_is x l r = last_reverse (take (place_of x l) l) ∙ ap first
    (sym (below-parted is_before x l (place_of x l) (place_front x l) (place_rest x l r)))

pub from_key : (key : List ℕ) (l : List Pair) → first_from (key, 0) l ≡ first (pairs_from key l)
from_key key l = first_from_is (key, 0) l ∙ ap first
    (filter_same (λ p. not (is_before p (key, 0))) (λ p. not (key_before p.0 key)) (λ p. ap not (key_zero p key)) l)

pub from_next : (x : Pair) (l : List Pair) → first_from (x.0, x.1 + 1) l ≡ first (above is_before x l)
from_next x l = first_from_is (x.0, x.1 + 1) l ∙ ap first
    (filter_same (λ p. not (is_before p (x.0, x.1 + 1))) (is_before x) (after_next x) l)

pub from_least : (l : List Pair) → first_from ([], 0) l ≡ first l
from_least [] = refl
from_least (y ∷ l) = let e = nothing_before y in rw e refl
