use Rattle.std.proofs.Common.{◌≡◌, ℕ, List, [], ◌∷◌, length, ◌<◌, ap, refl, arith, sym, subst, lit<, ◌^◌}
use Rattle.key_lists.specs.Order.{Each, IsDistinct}
use Rattle.key_lists.specs.Pairs.{Pair}
use Rattle.key_lists.specs.KeyForm.{IsPairOf}
use Rattle.tables_tests.proofs.files.lists.puts_pairs_in_order.Goals as goal

-- the four entries of the test
entries : List Pair
entries = (66 ∷ 32 ∷ [], 9) ∷ (66 ∷ 32 ∷ [], 3) ∷ (65 ∷ 90 ∷ [], 12) ∷ (32 ∷ 66 ∷ [], 7) ∷ []

keys : Each (IsPairOf 2) entries
unfolding entries
keys = ((refl, omega arith), ((refl, omega arith), ((refl, omega arith), ((refl, omega arith), tt))))

differ : (p q : Pair) (m n : ℕ) → p.1 ≡ m → q.1 ≡ n → (m ≡ n → ⊥) → p ≡ q → ⊥
differ p q m n e f other same = other (search (e, f, ap (λ (r : Pair). r.1) same))

distinct : IsDistinct entries
unfolding entries
distinct = (
  (
    differ _ _ 3 9 refl refl (λ e. omega arith),
    (differ _ _ 12 9 refl refl (λ e. omega arith), (differ _ _ 7 9 refl refl (λ e. omega arith), tt)),
  ),
  (
    (differ _ _ 12 3 refl refl (λ e. omega arith), (differ _ _ 7 3 refl refl (λ e. omega arith), tt)),
    (
      (differ _ _ 7 12 refl refl (λ e. omega arith), tt),
      (tt, tt),
    ),
  ),
)

few : length entries < 2 ^ 32
unfolding entries
few = lit< tt

-- what the test puts in order
same : (g : Rattle.tables_tests.proofs.files.lists.puts_pairs_in_order.Given.Over) (c : goal.After-rebuild-arg-2-1 g)
    → entries ≡ c.in_ok-entries.entries.items
unfolding entries
same g c = sym c.in_ok-entries.ensures

pub rebuild-requires-clause-keys : goal.rebuild-requires-clause-keys
rebuild-requires-clause-keys g c = subst (Each (IsPairOf 2)) (same g c) keys

pub rebuild-requires-clause-distinct : goal.rebuild-requires-clause-distinct
rebuild-requires-clause-distinct g c = subst IsDistinct (same g c) distinct

pub rebuild-requires-clause-few : goal.rebuild-requires-clause-few
rebuild-requires-clause-few g c = subst (λ l. length l < 2 ^ 32) (same g c) few
