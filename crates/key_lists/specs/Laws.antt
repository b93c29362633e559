-- What follows from the definitions of lists in order: laws that moves and changes of indexes rest on.
use Rattle.std.specs.Prelude.{◌≡◌, ℕ, ◌<◌, ◌⊎◌, ◌↔◌, Bool, true, false, not, ◌&&◌, ◌==◌, Option, Some, List, [], ◌∷◌}
use Rattle.std.specs.Prelude.{◌++◌, length, filter, Contains, MatchOption, IsPermutation, reverse, ⊤}
use Rattle.key_lists.specs.Order.{IsStrictOrder, Each, IsAscending, IsDistinct, flip, first, above, below, inserted}
use Rattle.key_lists.specs.Order.{without, in_order}
use Rattle.key_lists.specs.Pairs.{Pair, is_before, key_before, pairs_from}

-- a value of the list with a property, and no other that has it comes before this one
pub record IsLeast {X : Type 0} (lt : X → X → Bool) (P : X → Type 0) (xs : List X) (q : X) : Type 0 where
  pub there : Contains xs q
  pub fits : P q
  pub least : Each (λ y. P y → lt y q ≡ false) xs

-- the least value of the list with a property, or none where no value has it
abbrev pub IsLeastOf : {X : Type 0} → (X → X → Bool) → (X → Type 0) → List X → Option X → Type 0
IsLeastOf lt P xs found = MatchOption found (Each (λ y. P y → ⊥) xs) (λ q. IsLeast lt P xs q)

-- pairs are in a strict order: that of keys, which is that of their first different bytes, a prefix being below;
-- and of equal keys that of the records
pub record OrdersPairs : Type 0 where
  pub strict : IsStrictOrder is_before
  pub by_key : (k l : List ℕ) (m n : ℕ) → key_before k l ≡ true → is_before (k, m) (l, n) ≡ true
  pub by_record : (k : List ℕ) (m n : ℕ) → m < n → is_before (k, m) (k, n) ≡ true
  pub by_byte : (k l : List ℕ) (a b : ℕ) → a < b → key_before (a ∷ k) (b ∷ l) ≡ true
  pub same_start : (start k l : List ℕ) → key_before (start ++ k) (start ++ l) ≡ key_before k l
  pub prefix : (k : List ℕ) (b : ℕ) (rest : List ℕ) → key_before k (k ++ b ∷ rest) ≡ true

-- what the searches of a list in order answer
pub record FindsNearest (pairs : List Pair) : Type 0 where
  pub least : IsLeastOf is_before (λ _. ⊤) pairs (first pairs)
  pub greatest : IsLeastOf (flip is_before) (λ _. ⊤) pairs (first (reverse pairs))
  pub least_from : (key : List ℕ)
      → IsLeastOf is_before (λ q. key_before q.0 key ≡ false) pairs (first (pairs_from key pairs))
  pub next : (p : Pair) → IsLeastOf is_before (λ q. is_before p q ≡ true) pairs (first (above is_before p pairs))
  pub previous : (p : Pair)
      → IsLeastOf (flip is_before) (λ q. is_before q p ≡ true) pairs (first (below is_before p pairs))

-- a walk by `after` or `before` meets each pair in turn: what a search leaves begins with its answer, and goes on with
-- what lies behind that
pub record MeetsEach (pairs : List Pair) : Type 0 where
  pub least : (q : Pair) → first pairs ≡ Some q → pairs ≡ q ∷ above is_before q pairs
  pub least_from : (key : List ℕ) (q : Pair) → first (pairs_from key pairs) ≡ Some q
      → pairs_from key pairs ≡ q ∷ above is_before q pairs
  pub next : (p q : Pair) → first (above is_before p pairs) ≡ Some q
      → above is_before p pairs ≡ q ∷ above is_before q pairs
  pub greatest : (q : Pair) → first (reverse pairs) ≡ Some q → reverse pairs ≡ q ∷ below is_before q pairs
  pub previous : (p q : Pair) → first (below is_before p pairs) ≡ Some q
      → below is_before p pairs ≡ q ∷ below is_before q pairs

-- what a change of a list in order does
pub record ChangesOne (p : Pair) (pairs : List Pair) : Type 0 where
  pub ordered_with : Each (λ q. q ≡ p → ⊥) pairs → IsAscending is_before (inserted is_before p pairs)
  pub members_with : (q : Pair) → Contains (inserted is_before p pairs) q ↔ ((q ≡ p) ⊎ Contains pairs q)
  pub ordered_without : IsAscending is_before (without is_before p pairs)
  pub members_without : (q : Pair) → Contains (without is_before p pairs) q ↔ (Contains pairs q × (q ≡ p → ⊥))
  pub absent : Each (λ q. q ≡ p → ⊥) pairs → without is_before p pairs ≡ pairs
  pub undone : Each (λ q. q ≡ p → ⊥) pairs → without is_before p (inserted is_before p pairs) ≡ pairs

-- what putting pairs in order does, whatever order they come in, and how it goes with a change of one of them
pub record PutsInOrder (pairs : List Pair) : Type 0 where
  pub ascending : IsDistinct pairs → IsAscending is_before (in_order is_before pairs)
  pub members : (q : Pair) → Contains (in_order is_before pairs) q ↔ Contains pairs q
  pub permutation : IsPermutation pairs (in_order is_before pairs)
  pub count : length (in_order is_before pairs) ≡ length pairs
  pub same : IsAscending is_before pairs → in_order is_before pairs ≡ pairs
  pub any_order : (others : List Pair) → IsPermutation pairs others
      → in_order is_before others ≡ in_order is_before pairs

pub record ChangesRows (front : List Pair) (p : Pair) (back : List Pair) : Type 0 where
  pub added : in_order is_before (front ++ p ∷ back) ≡ inserted is_before p (in_order is_before (front ++ back))
  pub removed : Each (λ q. q ≡ p → ⊥) (front ++ back)
      → without is_before p (in_order is_before (front ++ p ∷ back)) ≡ in_order is_before (front ++ back)
  pub replaced : Each (λ q. q ≡ p → ⊥) (front ++ back) → (q : Pair)
      → in_order is_before (front ++ q ∷ back)
      ≡ inserted is_before q (without is_before p (in_order is_before (front ++ p ∷ back)))

-- whether a key begins with these bytes
abbrev pub begins_with : List ℕ → List ℕ → Bool
begins_with [] key = true
begins_with (a ∷ start) [] = false
begins_with (a ∷ start) (b ∷ key) = a == b && begins_with start key

-- the pairs whose keys begin so stand side by side, at the front of those from there on
abbrev pub StandTogether : List Pair → Type 0
StandTogether pairs = (start : List ℕ)
    → pairs_from start pairs ≡ filter (λ p. begins_with start p.0) pairs
    ++ filter (λ p. not (begins_with start p.0)) (pairs_from start pairs)
