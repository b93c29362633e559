-- Facts on rising lists of pairs.
use Rattle.std.proofs.Common.{◌≡◌, ℕ, zero, suc, Some, get_or, ◌+◌, ◌<◌, ◌≤◌, true, false, cond, List, [], ◌∷◌, ◌++◌}
use Rattle.std.proofs.Common.{length, take, drop, refl, ap, sym, ◌∙◌, subst, arith}
use Rattle.std.proofs.lemmas.Bool.{true_from_ne_false}
use Rattle.key_lists.specs.Pairs.{Pair, is_before}
use Rattle.key_lists.specs.Rising.{AllBefore, AllAfter, IsRising, with_pair, IsAbsent, place_of, last_of}
use Rattle.key_lists.proofs.Ordered.{Each-map, Each-append_left, Each-append_right, IsAscending-inserted}
use Rattle.key_lists.proofs.Ordered.{IsAscending-right, asymm}
use Rattle.key_lists.proofs.PairOrder.{is_before_strict}

pub before_trans : (a b c : Pair) → is_before a b ≡ true → is_before b c ≡ true → is_before a c ≡ true
before_trans a b c p q = is_before_strict.trans a b c p q

pub before_asym : (a b : Pair) → is_before a b ≡ true → is_before b a ≡ false
before_asym a b p = asymm is_before is_before_strict a b p

pub after_trans : (x y : Pair) (l : List Pair) → is_before x y ≡ true → AllAfter y l → AllAfter x l
after_trans x y l p a =
    Each-map (λ z. is_before y z ≡ true) (λ z. is_before x z ≡ true) (λ z q. before_trans x y z p q) l a

-- x has its place behind what stands before it
pub with_pair_right : (x : Pair) (l r : List Pair) → AllBefore l x → with_pair x (l ++ r) ≡ l ++ with_pair x r
with_pair_right x [] r a = refl
with_pair_right x (y ∷ l) r a = rw a.0 (ap (λ (m : List Pair). y ∷ m) (with_pair_right x l r a.1))

-- x has its place in front of what stands after it
pub with_pair_left : (x : Pair) (l r : List Pair) → AllAfter x r → with_pair x (l ++ r) ≡ with_pair x l ++ r
with_pair_left x [] [] a = refl
with_pair_left x [] (y ∷ r) a = let q : is_before y x ≡ false = before_asym x y a.0 in rw q refl
with_pair_left x (y ∷ l) r a =
    elim (is_before y x) as (λ b. cond b (y ∷ with_pair x (l ++ r)) (x ∷ y ∷ (l ++ r))
    ≡ cond b (y ∷ with_pair x l) (x ∷ y ∷ l) ++ r) [
      | true ↦ ap (λ (m : List Pair). y ∷ m) (with_pair_left x l r a)
      | false ↦ refl
    ]

-- of two pairs that are not one, the one that does not stand before the other stands after it
pub other_way : (x y : Pair) → (y ≡ x → ⊥) → is_before y x ≡ false → is_before x y ≡ true
other_way x y n p = true_from_ne_false (is_before x y) (λ q. n (is_before_strict.total y x p q))

pub rising_with_pair : (x : Pair) (l : List Pair) → IsRising l → IsAbsent x l → IsRising (with_pair x l)
rising_with_pair x l s a = IsAscending-inserted is_before is_before_strict x l a s

pub length-with_pair : (x : Pair) (l : List Pair) → length (with_pair x l) ≡ length l + 1
length-with_pair x [] = omega arith
length-with_pair x (y ∷ l) =
    elim (is_before y x) as (λ b. length (cond b (y ∷ with_pair x l) (x ∷ y ∷ l)) ≡ length (y ∷ l) + 1) [
      | true ↦ omega (arith, length-with_pair x l)
      | false ↦ omega arith
    ]

pub place_of-le : (x : Pair) (l : List Pair) → place_of x l ≤ length l
place_of-le x [] = omega arith
place_of-le x (y ∷ l) =
    elim (is_before y x) as (λ b. cond b (suc (place_of x l)) 0 ≤ length (y ∷ l)) [
      | true ↦ omega (arith, place_of-le x l)
      | false ↦ omega arith
    ]

-- what stands at its place in the pairs
pub put_at_place : (x : Pair) (l : List Pair) → take (place_of x l) l ++ x ∷ drop (place_of x l) l ≡ with_pair x l
put_at_place x [] = refl
put_at_place x (y ∷ l) =
    elim (is_before y x) as (λ b. take (cond b (suc (place_of x l)) 0) (y ∷ l) ++ x ∷ drop
    (cond b (suc (place_of x l)) 0) (y ∷ l) ≡ cond b (y ∷ with_pair x l) (x ∷ y ∷ l)) [
      | true ↦ ap (λ (m : List Pair). y ∷ m) (put_at_place x l)
      | false ↦ refl
    ]

pub absent_front : (x : Pair) (l r : List Pair) → IsAbsent x (l ++ r) → IsAbsent x l
absent_front x l r a = Each-append_left (λ y. y ≡ x → ⊥) l r a

pub absent_back : (x : Pair) (l r : List Pair) → IsAbsent x (l ++ r) → IsAbsent x r
absent_back x l r a = Each-append_right (λ y. y ≡ x → ⊥) l r a

pub rising_front : (l r : List Pair) → IsRising (l ++ r) → IsRising l
rising_front [] r s = tt
rising_front (x ∷ l) r s = (Each-append_left (λ y. is_before x y ≡ true) l r s.0, rising_front l r s.1)

pub rising_back : (l r : List Pair) → IsRising (l ++ r) → IsRising r
rising_back l r s = IsAscending-right is_before l r s

-- the last pair

pub last_skip : (y s : Pair) (l : List Pair) → last_of l ≡ Some s → last_of (y ∷ l) ≡ Some s
last_skip y s [] e = cc
last_skip y s (z ∷ l) e = e

pub last_back : (s : Pair) (l r : List Pair) → last_of r ≡ Some s → last_of (l ++ r) ≡ Some s
last_back s [] r e = e
last_back s (y ∷ l) r e = last_skip y s (l ++ r) (last_back s l r e)

-- the last of two lists is that of the second, unless that is empty
pub last_only : (l : List Pair) (y : Pair) (r : List Pair) → last_of (l ++ y ∷ r) ≡ last_of (y ∷ r)
last_only [] y r = refl
last_only (x ∷ []) y r = refl
last_only (x ∷ z ∷ l) y r = last_only (z ∷ l) y r

pub last_some : (s : Pair) (l r : List Pair) → last_of (l ++ r) ≡ Some s → 0 < length r → last_of r ≡ Some s
last_some s l [] e n = absurd (omega arith)
last_some s l (y ∷ r) e n = sym (last_only l y r) ∙ e

pub last_with : (x s : Pair) (l : List Pair) → last_of l ≡ Some s → is_before x s ≡ true
    → last_of (with_pair x l) ≡ Some s
last_with x s [] e p = cc
last_with x s (y ∷ []) e p =
    let q : y ≡ s = cc in let r : is_before y x ≡ false = before_asym x y (ap (is_before x) q ∙ p) in rw r e
last_with x s (y ∷ z ∷ l) e p =
    elim (is_before y x) as (λ b. last_of (cond b (y ∷ with_pair x (z ∷ l)) (x ∷ y ∷ z ∷ l)) ≡ Some s) [
      | true ↦ last_skip y s (with_pair x (z ∷ l)) (last_with x s (z ∷ l) e p)
      | false ↦ e
    ]

pub rising_after_last : (s : Pair) (l r : List Pair) → last_of l ≡ Some s → IsRising (l ++ r) → AllAfter s r
rising_after_last s [] r e h = absurd cc
rising_after_last s (y ∷ []) r e h = let q : y ≡ s = cc in subst (λ (v : Pair). AllAfter v r) q h.0
rising_after_last s (y ∷ z ∷ l) r e h = rising_after_last s (z ∷ l) r e h.1

pub after_last : (x s : Pair) (l : List Pair) → last_of l ≡ Some s → AllAfter x l → is_before x s ≡ true
after_last x s [] e a = absurd cc
after_last x s (y ∷ []) e a = let q : y ≡ s = cc in ap (is_before x) (sym q) ∙ a.0
after_last x s (y ∷ z ∷ l) e a = after_last x s (z ∷ l) e a.1

-- what stands in a rising list stands before what its last stands before
pub rising_before_last : (s x : Pair) (l : List Pair) → last_of l ≡ Some s → IsRising l → is_before s x ≡ true
    → AllBefore l x
rising_before_last s x [] e h p = tt
rising_before_last s x (y ∷ []) e h p = let q : y ≡ s = cc in (ap (λ (v : Pair). is_before v x) q ∙ p, tt)
rising_before_last s x (y ∷ z ∷ l) e h p =
    (before_trans y s x (after_last y s (z ∷ l) e h.0) p, rising_before_last s x (z ∷ l) e h.1 p)

pub absent_last : (x s : Pair) (l : List Pair) → last_of l ≡ Some s → IsAbsent x l → s ≡ x → ⊥
absent_last x s [] e a = absurd cc
absent_last x s (y ∷ []) e a = let q : y ≡ s = cc in λ h. a.0 (q ∙ h)
absent_last x s (y ∷ z ∷ l) e a = absent_last x s (z ∷ l) e a.1

pub last_of_take : (j : ℕ) (l : List Pair) (d : Pair) → j < length l → last_of (take (suc j) l) ≡ Some (get_or l j d)
last_of_take j [] d p = absurd (omega arith)
last_of_take zero (y ∷ l) d p = refl
last_of_take (suc j) (y ∷ l) d p = last_skip y _ (take (suc j) l) (last_of_take j l d (omega arith))

pub last_rest : (l r : List Pair) → 0 < length r → last_of (l ++ r) ≡ last_of r
last_rest l [] n = absurd (omega arith)
last_rest l (y ∷ r) n = last_only l y r
