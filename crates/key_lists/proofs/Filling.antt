-- Pairs that are put in order.
use Rattle.std.proofs.Common.{◌≡◌, ℕ, ◌<◌, ◌^◌, List, [], ◌∷◌, length, get_or, refl, sym, ap, ◌∙◌, subst, ⊎_elim, arith}
use Rattle.std.proofs.lemmas.Bool.{cases_lt}
use Rattle.key_lists.specs.Order.{Each, IsDistinct, in_order}
use Rattle.key_lists.specs.Pairs.{Pair, is_before}
use Rattle.key_lists.specs.KeyForm.{IsPairOf}
use Rattle.key_lists.specs.Rising.{IsRising}
use Rattle.key_lists.proofs.Ordered.{Each-in_order, ascending_at, in_order-sorted, IsAscending-in_order}
use Rattle.key_lists.proofs.Rises.{length-with_pair, before_asym}
use Rattle.key_lists.proofs.PairOrder.{is_before_strict}

pub length-in_order : (l : List Pair) → length (in_order is_before l) ≡ length l
length-in_order [] = refl
length-in_order (x ∷ l) = omega (arith, length-with_pair x (in_order is_before l), length-in_order l)

pub rising_in_order : (l : List Pair) → IsRising l → in_order is_before l ≡ l
rising_in_order l r = in_order-sorted is_before is_before_strict l (λ i j d le within.
    ⊎_elim (λ less. before_asym (get_or l i d) (get_or l j d) (ascending_at is_before l i j d r less within))
    (λ ge. let same : j ≡ i = omega arith in ap (λ k. is_before (get_or l k d) (get_or l i d)) same
    ∙ is_before_strict.irrefl (get_or l i d)) (cases_lt i j))

-- pairs put in order
pub record IsSorted (key_length : ℕ) (all sorted : List Pair) : Type 0 where
  pub keys : Each (IsPairOf key_length) sorted
  pub rising : IsRising sorted
  pub few : length sorted < 2 ^ 32

pub sorted_again : (key_length : ℕ) (all sorted : List Pair) → sorted ≡ in_order is_before all
    → Each (IsPairOf key_length) all → IsDistinct all → length all < 2 ^ 32 → IsSorted key_length all sorted
sorted_again k all sorted e keys distinct few =
    record {
      keys = subst (Each (IsPairOf k)) (sym e) (Each-in_order is_before (IsPairOf k) all keys);
      rising = subst IsRising (sym e) (IsAscending-in_order is_before is_before_strict all distinct);
      few = omega (arith, ap (λ (m : List Pair). length m) e, length-in_order all, few);
    }
