-- Keys that begin alike.
use Rattle.std.proofs.Common.{◌≡◌, ◌∙◌, ℕ, ◌<◌, inl, inr, true, false, not, eqb, cond, List, [], ◌∷◌, ◌++◌}
use Rattle.std.proofs.Common.{refl, ap, sym, subst, arith}
use Rattle.std.specs.List.{filter}
use Rattle.std.proofs.lemmas.Bool.{cases_lt, eqb-true, eq-eqb, false≢true, false_from_ne_true, not-true, and_parts}
use Rattle.key_lists.specs.Order.{Each, IsAscending}
use Rattle.key_lists.specs.Pairs.{Pair, is_before, key_before, pairs_from}
use Rattle.key_lists.specs.Laws.{begins_with, StandTogether}
use Rattle.key_lists.proofs.Ordered.{Each-map, Each-filter, filter-all, filter-none}
use Rattle.key_lists.proofs.KeyOrder.{orders_pairs}
use Rattle.key_lists.proofs.Rises.{before_asym}

-- keys go up with the pairs
pub not_below : (p q : Pair) → is_before p q ≡ true → key_before q.0 p.0 ≡ false
not_below p q e = false_from_ne_true (key_before q.0 p.0)
    (λ g. false≢true (sym (before_asym p q e) ∙ orders_pairs.by_key q.0 p.0 q.1 p.1 g))

-- keys of one first byte are ordered by the others
behind_byte : (a : ℕ) (k l : List ℕ) → key_before (a ∷ k) (a ∷ l) ≡ key_before k l
behind_byte a k l = orders_pairs.same_start (a ∷ []) k l

-- a key that isn't below another has no lower first byte
first_byte : (a b : ℕ) (k l : List ℕ) → key_before (a ∷ k) (b ∷ l) ≡ false → a < b → ⊥
first_byte a b k l e less = false≢true (sym e ∙ orders_pairs.by_byte k l a b less)

first_bytes : (a b : ℕ) → (a < b → ⊥) → (b < a → ⊥) → a ≡ b
first_bytes a b lower more = elim (cases_lt a b) [
  | inl less ↦ absurd (lower less)
  | inr le ↦ elim (cases_lt b a) [
    | inl less ↦ absurd (more less)
    | inr other ↦ omega arith
  ]
]

-- what begins so isn't below
from_start : (start key : List ℕ) → begins_with start key ≡ true → key_before key start ≡ false
unfolding key_before
from_start [] [] e = refl
from_start [] (b ∷ key) e = refl
from_start (a ∷ start) [] e = absurd cc
from_start (a ∷ start) (b ∷ key) e =
    let parts = and_parts (eqb a b) (begins_with start key) e in
    subst (λ x. key_before (x ∷ key) (a ∷ start) ≡ false) (eqb-true a b parts.0)
    (behind_byte a key start ∙ from_start start key parts.1)

-- a key between the beginning and one that begins so begins so too
between_starts : (start low high : List ℕ) → key_before low start ≡ false → key_before high low ≡ false
    → begins_with start high ≡ true → begins_with start low ≡ true
between_starts [] low high e f b = refl
between_starts (a ∷ start) [] high e f b = absurd (false≢true (sym e ∙ orders_pairs.prefix [] a start))
between_starts (a ∷ start) (x ∷ low) [] e f b = absurd cc
between_starts (a ∷ start) (x ∷ low) (y ∷ high) e f b =
    let parts = and_parts (eqb a y) (begins_with start high) b in
    let top : a ≡ y = eqb-true a y parts.0 in
    let same : a ≡ x = first_bytes a x (λ less. first_byte y x high low f (subst (λ z. z < x) top less))
    (λ less. first_byte x a low start e less) in
    let lower : key_before low start ≡ false =
    sym (behind_byte a low start) ∙ ap (λ z. key_before (z ∷ low) (a ∷ start)) same ∙ e in
    let upper : key_before high low ≡ false = sym (behind_byte a high low)
    ∙ ap (λ z. key_before (z ∷ high) (a ∷ low)) top ∙ ap (λ z. key_before (y ∷ high) (z ∷ low)) same ∙ f in
    rw (eq-eqb a x same) (between_starts start low high lower upper parts.1)

-- behind a key that doesn't begin so none does
none_behind : (start : List ℕ) (p q : Pair) → not (key_before p.0 start) ≡ true → begins_with start p.0 ≡ false
    → is_before p q ≡ true → begins_with start q.0 ≡ false
none_behind start p q from other e = elim (begins_with start q.0) as (λ b. begins_with start q.0 ≡ b → b ≡ false) [
  | true ↦ λ f. absurd (false≢true (sym other ∙ between_starts start p.0 q.0
      (not-true (key_before p.0 start) from) (not_below p q e) f))
  | false ↦ λ f. refl
] refl

pub stand_together : (pairs : List Pair) → IsAscending is_before pairs → StandTogether pairs
stand_together [] a start = refl
stand_together (p ∷ ps) a start = elim (begins_with start p.0) as
    (λ b. begins_with start p.0 ≡ b → cond (not (key_before p.0 start)) (p ∷ pairs_from start ps) (pairs_from start ps)
    ≡ cond b (p ∷ filter (λ q. begins_with start q.0) ps) (filter (λ q. begins_with start q.0) ps) ++ filter
    (λ q. not (begins_with start q.0))
    (cond (not (key_before p.0 start)) (p ∷ pairs_from start ps) (pairs_from start ps))) [
      | true ↦ λ e. rw (from_start start p.0 e, e) (ap (λ (m : List Pair). p ∷ m) (stand_together ps a.1 start))
      | false ↦ λ e. elim (not (key_before p.0 start)) as
          (λ b. not (key_before p.0 start) ≡ b → cond b (p ∷ pairs_from start ps) (pairs_from start ps)
          ≡ filter (λ q. begins_with start q.0) ps ++ filter (λ q. not (begins_with start q.0))
          (cond b (p ∷ pairs_from start ps) (pairs_from start ps))) [
            | true ↦ λ f.
                let none : Each (λ q. begins_with start q.0 ≡ false) ps = Each-map (λ q. is_before p q ≡ true)
                (λ q. begins_with start q.0 ≡ false) (λ q g. none_behind start p q f e g) ps a.0 in
                let later : Each (λ q. not (begins_with start q.0) ≡ true) (pairs_from start ps) = Each-filter
                (λ q. not (begins_with start q.0) ≡ true) (λ q. not (key_before q.0 start)) ps
                (Each-map (λ q. begins_with start q.0 ≡ false) (λ q. not (begins_with start q.0) ≡ true)
                (λ q g. ap not g)
                ps none) in
                rw (filter-none (λ q. begins_with start q.0) ps none, e)
                (ap (λ (m : List Pair). p ∷ m)
                (sym (filter-all (λ q. not (begins_with start q.0)) (pairs_from start ps) later)))
            | false ↦ λ f. stand_together ps a.1 start
          ] refl
    ] refl
