-- Pairs are in a strict order.
use Rattle.std.proofs.Common.{◌≡◌, ℕ, true, false, not, List, refl, sym, ap, ◌∙◌}
use Rattle.std.specs.declared.cmp.Ordering.{Ordering}
use Rattle.std.specs.declared.cmp.Ordering.TheVariants.{Less, Equal, Greater}
use Rattle.std.specs.Ordering.{is_lt, nat_cmp, ordering_reverse}
use Rattle.std.specs.Cmp.{IsTotalOrder}
use Rattle.std.specs.Cmp.Lexicographic.{slice_cmp}
use Rattle.std.proofs.lemmas.Cmp.{then_total, on_total, nat_cmp_total, nat_list_cmp_total, tied_itself}
use Rattle.std.proofs.lemmas.Map.Lookups.{CmpEqualImpliesEq, exact_pairs, exact_bytes, exact_unsigned}
use Rattle.key_lists.specs.Order.{IsStrictOrder}
use Rattle.key_lists.specs.Pairs.{Pair, pair_cmp, is_before, key_before}

pub pair_cmp_total : IsTotalOrder pair_cmp
pair_cmp_total = then_total (on_total (λ (p : Pair). p.0) nat_list_cmp_total)
    (on_total (λ (p : Pair). p.1) nat_cmp_total)

pub pair_cmp_exact : CmpEqualImpliesEq pair_cmp
pair_cmp_exact = exact_pairs (slice_cmp nat_cmp) nat_cmp exact_bytes exact_unsigned

pub is_lt-less : (o : Ordering) → is_lt o ≡ true → o ≡ Less
is_lt-less Less e = refl
is_lt-less Equal e = cc
is_lt-less Greater e = cc

both_not_less : (o r : Ordering) → o ≡ ordering_reverse r → is_lt o ≡ false → is_lt r ≡ false → o ≡ Equal
both_not_less Less r e f g = cc
both_not_less Equal r e f g = refl
both_not_less Greater Less e f g = cc
both_not_less Greater Equal e f g = e
both_not_less Greater Greater e f g = cc

pub is_before_strict : IsStrictOrder is_before
unfolding is_before
is_before_strict = record {
  irrefl = λ p. ap is_lt (tied_itself pair_cmp_total p);
  trans = λ p q r e f. ap is_lt (pair_cmp_total.trans p q r (is_lt-less _ e) (is_lt-less _ f));
  total = λ p q e f. pair_cmp_exact p q (both_not_less _ _ (pair_cmp_total.antisymm p q) e f);
}

-- what is not after a pair goes down along the order
pub not_after_down : (x p q : Pair) → is_before p q ≡ true → not (is_before x q) ≡ true → not (is_before x p) ≡ true
not_after_down x p q e f =
    elim (is_before x p) as (λ b. is_before x p ≡ b → not b ≡ true) [
      | true ↦ λ g. let h = is_before_strict.trans x p q g e in rw h at f
      | false ↦ λ g. refl
    ] refl

key_total : IsTotalOrder (slice_cmp nat_cmp)
key_total = nat_list_cmp_total

-- so does a key that is below a key
pub key_before_down : (k : List ℕ) (p q : Pair) → is_before p q ≡ true → key_before q.0 k ≡ true
    → key_before p.0 k ≡ true
unfolding is_before key_before
key_before_down k p q e f =
    elim (slice_cmp nat_cmp p.0 q.0) as (λ o. slice_cmp nat_cmp p.0 q.0 ≡ o → is_lt (slice_cmp nat_cmp p.0 k) ≡ true) [
      | Less ↦ λ g. ap is_lt (key_total.trans p.0 q.0 k g (is_lt-less _ f))
      | Equal ↦ λ g. ap is_lt (key_total.congr p.0 q.0 k g) ∙ f
      | Greater ↦ λ g. let h = rw g at e in cc
    ] refl

-- and a key that is above a key goes up
pub key_before_up : (k : List ℕ) (p q : Pair) → is_before p q ≡ true → key_before k p.0 ≡ true → key_before k q.0 ≡ true
unfolding is_before key_before
key_before_up k p q e f =
    elim (slice_cmp nat_cmp p.0 q.0) as (λ o. slice_cmp nat_cmp p.0 q.0 ≡ o → is_lt (slice_cmp nat_cmp k q.0) ≡ true) [
      | Less ↦ λ g. ap is_lt (key_total.trans k p.0 q.0 (is_lt-less _ f) g)
      | Equal ↦ λ g. let same : p.0 ≡ q.0 =
          exact_bytes p.0 q.0 g in ap (λ (m : List ℕ). is_lt (slice_cmp nat_cmp k m)) (sym same) ∙ f
      | Greater ↦ λ g. let h = rw g at e in cc
    ] refl

pub is_before_is : (p q : Pair) → is_before p q ≡ is_lt (pair_cmp p q)
unfolding is_before
is_before_is p q = refl
