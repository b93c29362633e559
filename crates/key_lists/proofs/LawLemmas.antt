-- The laws of lists in order.
use Rattle.std.proofs.Common.{◌≡◌, ℕ, suc, true, false, not, cond, List, [], ◌∷◌, reverse, refl, ap, sym, subst}
use Rattle.std.specs.List.{insert}
use Rattle.std.proofs.lemmas.Bool.{not-true}
use Rattle.std.specs.List.Sorted.{IsPermutation}
use Rattle.std.proofs.lemmas.List.Sorted.{IsPermutation-refl, IsPermutation-trans, IsPermutation-cons}
use Rattle.std.proofs.lemmas.List.Sorted.{IsPermutation-insert}
use Rattle.key_lists.specs.Order.{IsStrictOrder, IsAscending, flip, first, below, inserted, in_order}
use Rattle.key_lists.specs.Pairs.{Pair, is_before, key_before, pairs_from}
use Rattle.key_lists.specs.Laws.{FindsNearest, MeetsEach, ChangesOne, PutsInOrder, ChangesRows}
use Rattle.key_lists.proofs.Ordered.{IsAscending-reverse, flip_strict, IsAscending-inserted, IsAscending-filter}
use Rattle.key_lists.proofs.Ordered.{IsAscending-in_order, without-inserted, in_order-permutation, in_order-middle}
use Rattle.key_lists.proofs.Ordered.{in_order-replaced, without-middle, without-absent, step_all, step_above}
use Rattle.key_lists.proofs.Filling.{length-in_order, rising_in_order}
use Rattle.key_lists.proofs.PairOrder.{is_before_strict, key_before_down}
use Rattle.key_lists.proofs.Members.{Contains-inserted, inserted-Contains, Contains-without, without-Contains}
use Rattle.key_lists.proofs.Members.{Contains-in_order, in_order-Contains}
use Rattle.key_lists.proofs.Nearest.{IsLeastOf-reverse, IsLeastOf-map, filter-least, first-least, step_from}

backward : IsStrictOrder (flip is_before)
backward = flip_strict is_before is_before_strict

-- what isn't below a key goes up along the order
pub not_below_up : (key : List ℕ) (p q : Pair) → is_before p q ≡ true → not (key_before p.0 key) ≡ true
    → not (key_before q.0 key) ≡ true
not_below_up key p q e f =
    elim (key_before q.0 key) as (λ b. key_before q.0 key ≡ b → not b ≡ true) [
      | true ↦ λ g. let h = key_before_down key p q e g in rw h at f
      | false ↦ λ g. refl
    ] refl

pub finds_nearest : (pairs : List Pair) → IsAscending is_before pairs → FindsNearest pairs
finds_nearest pairs a = record {
  least = first-least is_before is_before_strict pairs a;
  greatest = IsLeastOf-reverse (flip is_before) (λ _. Rattle.std.specs.Prelude.⊤) pairs (first (reverse pairs))
      (first-least (flip is_before) backward (reverse pairs) (IsAscending-reverse is_before pairs a));
  least_from = λ key. IsLeastOf-map is_before (λ (q : Pair). not (key_before q.0 key) ≡ true)
      (λ q. key_before q.0 key ≡ false) pairs (first (pairs_from key pairs)) (λ q e. not-true _ e) (λ q e. ap not e)
      (filter-least is_before is_before_strict (λ q. not (key_before q.0 key)) pairs a);
  next = λ p. filter-least is_before is_before_strict (is_before p) pairs a;
  previous = λ p. IsLeastOf-reverse (flip is_before) (λ q. is_before q p ≡ true) pairs (first (below is_before p pairs))
      (filter-least (flip is_before) backward (flip is_before p) (reverse pairs)
      (IsAscending-reverse is_before pairs a));
}

pub meets_each : (pairs : List Pair) → IsAscending is_before pairs → MeetsEach pairs
meets_each pairs a = record {
  least = λ q e. step_all is_before is_before_strict pairs q a e;
  least_from = λ key q e. step_from is_before is_before_strict (λ p. not (key_before p.0 key)) (not_below_up key) pairs
      q a e;
  next = λ p q e. step_above is_before is_before_strict p pairs q a e;
  greatest = λ q e. step_all (flip is_before) backward (reverse pairs) q (IsAscending-reverse is_before pairs a) e;
  previous = λ p q e. step_above (flip is_before) backward p (reverse pairs) q (IsAscending-reverse is_before pairs a)
      e;
}

pub changes_one : (p : Pair) (pairs : List Pair) → IsAscending is_before pairs → ChangesOne p pairs
changes_one p pairs a = record {
  ordered_with = λ n. IsAscending-inserted is_before is_before_strict p pairs n a;
  members_with = λ q. (Contains-inserted is_before p pairs q, inserted-Contains is_before p pairs q);
  ordered_without = IsAscending-filter is_before _ pairs a;
  members_without = λ q. (
    Contains-without is_before is_before_strict p pairs q,
    λ c. without-Contains is_before
        is_before_strict p pairs q c.0 c.1,
  );
  absent = λ n. without-absent is_before is_before_strict p pairs n;
  undone = λ n. without-inserted is_before is_before_strict p pairs n;
}

-- where a value goes in
inserted_at : (x : Pair) (ys : List Pair) → (n : ℕ) × (inserted is_before x ys ≡ insert ys n x)
inserted_at x [] = (0, refl)
inserted_at x (y ∷ ys) =
    elim (is_before y x) as (λ b. (n : ℕ) × (cond b (y ∷ inserted is_before x ys) (x ∷ y ∷ ys) ≡ insert (y ∷ ys) n x)) [
      | true ↦ (let r = inserted_at x ys in (suc r.0, ap (λ (m : List Pair). y ∷ m) r.1))
      | false ↦ (0, refl)
    ]

in_order-exchanged : (pairs : List Pair) → IsPermutation pairs (in_order is_before pairs)
in_order-exchanged [] = IsPermutation-refl []
in_order-exchanged (x ∷ pairs) =
    let sorted = in_order is_before pairs in
    let r = inserted_at x sorted in
    subst (IsPermutation (x ∷ pairs)) (sym r.1)
    (IsPermutation-trans (x ∷ pairs) (x ∷ sorted) (insert sorted r.0 x)
    (IsPermutation-cons x pairs sorted (in_order-exchanged pairs)) (IsPermutation-insert sorted r.0 x))

pub puts_in_order : (pairs : List Pair) → PutsInOrder pairs
puts_in_order pairs = record {
  ascending = λ d. IsAscending-in_order is_before is_before_strict pairs d;
  members = λ q. (Contains-in_order is_before pairs q, in_order-Contains is_before pairs q);
  permutation = in_order-exchanged pairs;
  count = length-in_order pairs;
  same = λ a. rising_in_order pairs a;
  any_order = λ others e. in_order-permutation is_before is_before_strict pairs others e;
}

pub changes_rows : (front : List Pair) (p : Pair) (back : List Pair) → ChangesRows front p back
changes_rows front p back = record {
  added = in_order-middle is_before is_before_strict front p back;
  removed = λ n. without-middle is_before is_before_strict front p back n;
  replaced = λ n q. in_order-replaced is_before is_before_strict front p q back n;
}
